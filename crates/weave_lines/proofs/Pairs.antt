-- Copies of a base and of an observer, wherever they stand, move as the two do: in one instant, and along a trace.
use Rattle.std.specs.Prelude.{slice_index_or}
use Rattle.std.proofs.Common.{◌≡◌, ℕ, ◌+◌, ◌<◌, List, [], ◌∷◌, Bool, true, false, refl, sym, ap, ◌∙◌, subst, arith, length, map}
use Rattle.std.proofs.lemmas.List.{length-map}
use Rattle.argos_base.specs.Machines.{ReactsOnce}
use Rattle.argos_base.specs.SignalSets.{SignalSet, has}
use Rattle.argos_core.specs.Codes.{code_of}
use Rattle.argos_core.specs.Configurations.{IsConfiguration}
use Rattle.argos_core.specs.Overlaps.{IsGood}
use Rattle.argos_core.specs.Process.{Configuration, PlainModule}
use Rattle.argos_core.specs.Reactions.{input_count, output_count, initial_of}
use Rattle.argos_core.proofs.CodesDiffer.{length-code_of}
use Rattle.argos_core.proofs.StepsStay.{initial_is}
use Rattle.argos_aspects.specs.Aspects.{Aspect, Seen, input, output, Onset, to_initial, to_current, outputs_by, AreBelow, AreSized, Fits, AllFit}
use Rattle.argos_aspects.specs.Weaving.{WovenConfiguration, Pair, woven_initial, IsWovenConfiguration, woven_code, sees, observed, Watch, Reach, WovenStep}
use Rattle.argos_aspects.proofs.WovenOnce.{reaction_stays, woven_initial_is, woven_stays, length-woven_code}
use Rattle.eqn_core.specs.Equations.{Equations, registers, bit_lines, word_lines}
use Rattle.eqn_core.specs.Solutions.{Values, bit_of, word_of, SystemReacts}
use Rattle.eqn_core.proofs.Once.{reacts_once}
use Rattle.weave_lines.specs.Systems.{IsMachineOf, IsWovenMachineOf, MoveAlong}
use Rattle.weave_lines.specs.WovenLines.{placed, copied, Words, bit_seen, constants, base_outputs, seen_bits, together, join_bit, moved_on, bits_together, words_together, along, behind}
use Rattle.weave_lines.proofs.Copies.{copy_gives}
use Rattle.weave_lines.proofs.Counts.{bits-moved, words-moved, bits-together, words-together}
use Rattle.weave_lines.proofs.Places.{AreAt, at_left, at_behind}
use Rattle.weave_lines.proofs.Reading.{at-map}

-- what the observer sees stands at the bits that are read for it
seen-read : (s : Values) (bits outs : List ℕ) (seen : List Seen) → AreBelow (length bits) (length outs) seen → map (bit_of s) (map (bit_seen bits outs) seen) ≡ map (sees (map (bit_of s) bits) (map (bit_of s) outs)) seen
seen-read s bits outs [] h = refl
seen-read s bits outs (input k ∷ seen) h = ap (λ (b : Bool). b ∷ map (bit_of s) (map (bit_seen bits outs) seen)) (sym (at-map (bit_of s) bits k 0 false h.0)) ∙ ap (λ (l : List Bool). has (map (bit_of s) bits) k ∷ l) (seen-read s bits outs seen h.1)
seen-read s bits outs (output k ∷ seen) h = ap (λ (b : Bool). b ∷ map (bit_of s) (map (bit_seen bits outs) seen)) (sym (at-map (bit_of s) outs k 0 false h.0)) ∙ ap (λ (l : List Bool). has (map (bit_of s) outs) k ∷ l) (seen-read s bits outs seen h.1)

pub constants-read : (s : Values) (one : ℕ) (v : SignalSet) → bit_of s one ≡ true → bit_of s (one + 1) ≡ false → map (bit_of s) (constants one v) ≡ v
constants-read s one [] t f = refl
constants-read s one (true ∷ v) t f = ap (λ (b : Bool). b ∷ map (bit_of s) (constants one v)) t ∙ ap (λ (l : List Bool). true ∷ l) (constants-read s one v t f)
constants-read s one (false ∷ v) t f = ap (λ (b : Bool). b ∷ map (bit_of s) (constants one v)) f ∙ ap (λ (l : List Bool). false ∷ l) (constants-read s one v t f)

-- reactions of an ordered system from one memory to one input are one
same_reaction : (P : PlainModule) (aspects : List Aspect) (E : Equations) (m : List ℕ) (i o o' : SignalSet) (n n' : List ℕ) → IsWovenMachineOf P aspects E → SystemReacts E m i o n → SystemReacts E m i o' n' → (o' ≡ o) × (n' ≡ n)
same_reaction P aspects E m i o o' n n' sys r r' =
    let one : ReactsOnce (SystemReacts E) m i = reacts_once E sys.ordered m i r.solves.memory r.solves.input in
    let p = one.only o' n' r' in
    let q = one.only o n r in
    (p.0 ∙ sym q.0, p.1 ∙ sym q.1)

module _ (P : PlainModule) (before : List Aspect) (A : Aspect) (W J : Equations) (good : IsGood P) (fit : AllFit (A ∷ before) (input_count P) (output_count P)) (base_is : IsWovenMachineOf P before W) (observer_is : IsMachineOf A.observer J) where
  fits : Fits A (input_count P) (output_count P)
  fits = fit.0

  abbrev pub AreIn : Pair → Type 0
  AreIn x = IsWovenConfiguration P before x.base × IsConfiguration A.observer.process x.observer

  -- the words hold the codes of the pair
  pub record Hold (s : Values) (x : Words) (p : Pair) : Type 0 where
    pub base : map (word_of s) x.base ≡ woven_code P before p.base
    pub observer : map (word_of s) x.observer ≡ code_of A.observer.process p.observer

  pub registers-base : (w : WovenConfiguration) → IsWovenConfiguration P before w → length (woven_code P before w) ≡ registers W
  registers-base w is = length-woven_code P before w is ∙ sym (length-woven_code P before (woven_initial P before) (woven_initial_is P before good fit.1)) ∙ ap length (sym base_is.initial)

  pub registers-observer : (c : Configuration) → IsConfiguration A.observer.process c → length (code_of A.observer.process c) ≡ registers J
  registers-observer c is = length-code_of A.observer.process c is ∙ sym (length-code_of A.observer.process (initial_of A.observer) (initial_is A.observer.process fits.observer.program.is.shaped)) ∙ ap length (sym observer_is.initial)

  pub next_is : (x : Pair) (v o : SignalSet) (y : Pair) (j : Bool) → AreIn x → Watch A (WovenStep P before) x v o y j → AreIn y
  next_is x v o y j is h = (woven_stays P before x.base v o y.base good fit.1 is.0 h.base_reacts, reaction_stays A.observer x.observer (observed A.seen v o) h.emitted y.observer fits.observer is.1 h.observer_reacts)

  pub record Gives (s : Values) (bits : List ℕ) (x : Words) (b w : ℕ) (o : SignalSet) (y : Pair) (j : Bool) : Type 0 where
    pub outputs : map (bit_of s) (base_outputs W J bits b) ≡ o
    pub next : Hold s (moved_on W J x w) y
    pub join : bit_of s (join_bit W J A.seen bits b) ≡ j

  pub watch_gives : (s : Values) (bits : List ℕ) (x : Words) (b w : ℕ) (p : Pair) (v o : SignalSet) (q : Pair) (j : Bool) → AreIn p → length v ≡ input_count P → AreAt s b w (together W J A.seen bits x b w) → map (bit_of s) bits ≡ v → Hold s x p → Watch A (WovenStep P before) p v o q j
      → Gives s bits x b w o q j
  watch_gives s bits x b w p v o q j is sized a read h watch =
      let bits_sized : length bits ≡ W.inputs = sym (length-map bits (bit_of s)) ∙ ap length read ∙ sized ∙ sym base_is.inputs in
      let outs = base_outputs W J bits b in
      let first = copy_gives W s bits b x.base w (woven_code P before p.base) v o (woven_code P before q.base) base_is.ordered bits_sized (sym (length-map x.base (word_of s)) ∙ ap length h.base ∙ registers-base p.base is.0)
      (at_left s b w (copied W bits b x.base w) (copied J (seen_bits W J A.seen bits b) (b + bit_lines W.lines) x.observer (w + word_lines W.lines)) a) read h.base (base_is.reactions p.base v o q.base is.0 watch.base_reacts)
      in
      let outs_sized : length outs ≡ output_count P = length-map W.outputs (placed bits b) ∙ base_is.outputs in
      let exist : AreBelow (length bits) (length outs) A.seen = subst (λ (k : ℕ). AreBelow k (length outs) A.seen) (sym (bits_sized ∙ base_is.inputs)) (subst (λ (k : ℕ). AreBelow (input_count P) k A.seen) (sym outs_sized) fits.seen_exist) in
      let seen : map (bit_of s) (seen_bits W J A.seen bits b) ≡ observed A.seen v o = seen-read s bits outs A.seen exist ∙ ap (λ (l : SignalSet). map (sees l (map (bit_of s) outs)) A.seen) read ∙ ap (λ (l : SignalSet). map (sees v l) A.seen) first.0 in
      let seen_sized : length (seen_bits W J A.seen bits b) ≡ J.inputs = length-map A.seen (bit_seen bits outs) ∙ fits.seen_sized ∙ sym observer_is.inputs in
      let behind_base = at_behind s b w (bit_lines W.lines) (word_lines W.lines) (copied W bits b x.base w) (copied J (seen_bits W J A.seen bits b) (b + bit_lines W.lines) x.observer (w + word_lines W.lines)) (bits-moved (placed bits b) (placed x.base w) W.lines) (words-moved (placed bits b) (placed x.base w) W.lines) a in
      let second = copy_gives J s (seen_bits W J A.seen bits b) (b + bit_lines W.lines) x.observer (w + word_lines W.lines) (code_of A.observer.process p.observer) (observed A.seen v o) watch.emitted (code_of A.observer.process q.observer) observer_is.ordered seen_sized (sym (length-map x.observer (word_of s)) ∙ ap length h.observer ∙ registers-observer p.observer is.1)
      behind_base seen h.observer (observer_is.reactions p.observer (observed A.seen v o) watch.emitted q.observer is.1 watch.observer_reacts)
      in
      let place = placed (seen_bits W J A.seen bits b) (b + bit_lines W.lines) in
      let some : 0 < length J.outputs = omega (arith, observer_is.outputs, outputs_one A.advice.onset fits.observer_outputs) in
      let join_read : has (map (bit_of s) (map place J.outputs)) 0 ≡ bit_of s (place (slice_index_or J.outputs 0 0)) = at-map (bit_of s) (map place J.outputs) 0 0 false (omega (arith, length-map J.outputs place)) ∙ ap (bit_of s) (at-map place J.outputs 0 0 0 some) in
      record {
        outputs = first.0;
        next = record { base = first.1; observer = second.1 };
        join = sym join_read ∙ ap (λ (l : SignalSet). has l 0) second.0 ∙ sym watch.join;
      }
    where
      outputs_one : (onset : Onset) → output_count A.observer ≡ outputs_by onset → output_count A.observer ≡ 1
      outputs_one to_initial e = e
      outputs_one to_current e = e

  -- along the trace, whatever the values of the input bits are
  pub along_gives : (s : Values) (one : ℕ) → bit_of s one ≡ true → bit_of s (one + 1) ≡ false → (trace : List SignalSet) (x : Words) (b w : ℕ) (p q : Pair) → AreIn p → AreSized (input_count P) trace → AreAt s b w (along W J A.seen one trace x b w) → Hold s x p → Reach A (WovenStep P before) p trace q
      → Hold s (behind W J trace x w) q
  along_gives s one t f [] x b w p q is sized a h r = subst (λ (z : Pair). Hold s x z) (sym r) h
  along_gives s one t f (v ∷ trace) x b w p q is sized a h r =
      let bits = constants one v in
      let more = along W J A.seen one trace (moved_on W J x w) (b + bits_together W J) (w + words_together W J) in
      let first = watch_gives s bits x b w p v r.1 r.0 r.2 is sized.0 (at_left s b w (together W J A.seen bits x b w) more a) (constants-read s one v t f) h r.3 in
      along_gives s one t f trace (moved_on W J x w) (b + bits_together W J) (w + words_together W J) r.0 q (next_is p v r.1 r.0 r.2 is r.3) sized.1
      (at_behind s b w (bits_together W J) (words_together W J) (together W J A.seen bits x b w) more (bits-together W J A.seen bits x b w) (words-together W J A.seen bits x b w) a) first.next r.4

  -- the two systems reach the codes of the pair that is reached
  pub moves_reach : (trace : List SignalSet) (p q : Pair) (m n m' n' : List ℕ) → AreIn p → m ≡ woven_code P before p.base → n ≡ code_of A.observer.process p.observer → MoveAlong W J A.seen m n trace m' n' → Reach A (WovenStep P before) p trace q
      → (m' ≡ woven_code P before q.base) × (n' ≡ code_of A.observer.process q.observer)
  moves_reach [] p q m n m' n' is em en moves r = (moves.0 ∙ em ∙ ap (λ (z : Pair). woven_code P before z.base) (sym r), moves.1 ∙ en ∙ ap (λ (z : Pair). code_of A.observer.process z.observer) (sym r))
  moves_reach (v ∷ trace) p q m n m' n' is em en moves r =
      let base : SystemReacts W (woven_code P before p.base) v moves.0 moves.2 = subst (λ (l : List ℕ). SystemReacts W l v moves.0 moves.2) em moves.4 in
      let first = same_reaction P before W (woven_code P before p.base) v r.1 moves.0 (woven_code P before r.0.base) moves.2 base_is (base_is.reactions p.base v r.1 r.0.base is.0 r.3.base_reacts) base in
      let observer : SystemReacts J (code_of A.observer.process p.observer) (observed A.seen v r.1) moves.1 moves.3 = subst (λ (l : List ℕ). SystemReacts J l (observed A.seen v r.1) moves.1 moves.3) en (subst (λ (o : SignalSet). SystemReacts J n (observed A.seen v o) moves.1 moves.3) first.0 moves.5) in
      let i = observed A.seen v r.1 in
      let due = observer_is.reactions p.observer i r.3.emitted r.0.observer is.1 r.3.observer_reacts in
      let one : ReactsOnce (SystemReacts J) (code_of A.observer.process p.observer) i = reacts_once J observer_is.ordered _ i due.solves.memory due.solves.input in
      moves_reach trace r.0 q moves.2 moves.3 m' n' (next_is p v r.1 r.0 r.2 is r.3) first.1 ((one.only moves.1 moves.3 observer).1 ∙ sym (one.only _ _ due).1) moves.6 r.4
