-- A copy of an ordered system, wherever it stands, reacts as the system does: from the memory and to the input set that it reads.
use Rattle.std.proofs.Common.{◌≡◌, ℕ, ◌<◌, List, [], ◌∷◌, ◌++◌, Bool, false, ◌&&◌, IsTrue, nat_lt, nat_le, refl, sym, ap, ◌∙◌, subst, arith, length, map}
use Rattle.std.proofs.lemmas.List.{length-map}
use Rattle.argos_base.specs.Machines.{ReactsOnce}
use Rattle.argos_base.specs.SignalSets.{SignalSet}
use Rattle.argos_base.proofs.Bools.{and_first, and_second}
use Rattle.eqn_core.specs.Equations.{Equations, registers, bit_lines, word_lines, bit_count, word_count}
use Rattle.eqn_core.specs.Ordered.{IsOrdered, all_below, all_between}
use Rattle.eqn_core.specs.Solutions.{Values, bit_of, word_of, SystemReacts}
use Rattle.eqn_core.proofs.InOrder.{IsOrdered-walk}
use Rattle.eqn_core.proofs.Once.{reacts_once}
use Rattle.weave_lines.specs.WovenLines.{placed, copied}
use Rattle.weave_lines.proofs.Moving.{below, lines-at}
use Rattle.weave_lines.proofs.Places.{AreAt}
use Rattle.weave_lines.proofs.Reading.{from, at-placed, AllBelow}

pub all_below-AllBelow : (n : ℕ) (ks : List ℕ) → IsTrue (all_below n ks) → AllBelow n ks
all_below-AllBelow n [] h = tt
all_below-AllBelow n (k ∷ ks) h = (below k n (and_first _ _ h), all_below-AllBelow n ks (and_second (nat_lt k n) _ h))

pub all_between-AllBelow : (lo n : ℕ) (ks : List ℕ) → IsTrue (all_between lo n ks) → AllBelow n ks
all_between-AllBelow lo n [] h = tt
all_between-AllBelow lo n (k ∷ ks) h = (below k n (and_second (nat_le lo k) _ (and_first _ _ h)), all_between-AllBelow lo n ks (and_second (nat_le lo k && nat_lt k n) _ h))

-- values that agree below n are read alike at numbers below n
pub map-agree : {X : Type 0} (f g : ℕ → X) (place : ℕ → ℕ) (n : ℕ) (ks : List ℕ) → ((k : ℕ) → k < n → f k ≡ g (place k)) → AllBelow n ks → map f ks ≡ map g (map place ks)
map-agree f g place n [] same h = refl
map-agree f g place n (k ∷ ks) same h = ap (λ x. x ∷ map f ks) (same k h.0) ∙ ap (λ l. g (place k) ∷ l) (map-agree f g place n ks same h.1)

-- what the copy reads and defines, as values of the system
abbrev pub copy_values : Values → Equations → List ℕ → ℕ → List ℕ → ℕ → Values
copy_values s E bits b words w = record {
  bits = map (bit_of s) bits ++ from (bit_of s) b (bit_lines E.lines);
  words = map (word_of s) words ++ from (word_of s) w (word_lines E.lines);
}

pub copy_reacts : (E : Equations) (s : Values) (bits : List ℕ) (b : ℕ) (words : List ℕ) (w : ℕ) → IsOrdered E → length bits ≡ E.inputs → length words ≡ registers E → AreAt s b w (copied E bits b words w)
    → SystemReacts E (map (word_of s) words) (map (bit_of s) bits) (map (bit_of s) (map (placed bits b) E.outputs)) (map (word_of s) (map (placed words w) E.next))
copy_reacts E s bits b words w h eb ew a =
    let t = copy_values s E bits b words w in
    let same_bits : (k : ℕ) → k < bit_count E → bit_of t k ≡ bit_of s (placed bits b k) = λ k l. at-placed (bit_of s) bits b (bit_lines E.lines) k false (omega arith) in
    let same_words : (k : ℕ) → k < word_count E → word_of t k ≡ word_of s (placed words w k) = λ k l. at-placed (word_of s) words w (word_lines E.lines) k 0 (omega arith) in
    let lines = lines-at s t (placed bits b) (placed words w) (bit_count E) (word_count E) same_bits same_words E.lines E.inputs (registers E) b w (omega arith) (omega arith) (IsOrdered-walk E h) a in
    record {
      values = t;
      solves = record {
        input = length-map bits (bit_of s) ∙ eb;
        memory = length-map words (word_of s) ∙ ew;
        lines = record {
          bits = ap (λ (l : List Bool). map (bit_of s) bits ++ l) (sym lines.0);
          words = ap (λ (l : List ℕ). map (word_of s) words ++ l) (sym lines.1);
        };
      };
      outputs = sym (map-agree (bit_of t) (bit_of s) (placed bits b) (bit_count E) E.outputs same_bits (all_below-AllBelow (bit_count E) E.outputs h.outputs_exist));
      next = sym (map-agree (word_of t) (word_of s) (placed words w) (word_count E) E.next same_words (all_between-AllBelow (registers E) (word_count E) E.next h.next_exist));
    }

-- so it has the outputs and the next memory of any reaction of the system
pub copy_gives : (E : Equations) (s : Values) (bits : List ℕ) (b : ℕ) (words : List ℕ) (w : ℕ) (m : List ℕ) (i o : SignalSet) (n : List ℕ) → IsOrdered E → length bits ≡ E.inputs → length words ≡ registers E → AreAt s b w (copied E bits b words w)
    → map (bit_of s) bits ≡ i → map (word_of s) words ≡ m → SystemReacts E m i o n
    → (map (bit_of s) (map (placed bits b) E.outputs) ≡ o) × (map (word_of s) (map (placed words w) E.next) ≡ n)
copy_gives E s bits b words w m i o n h eb ew a ei em r =
    let here = copy_reacts E s bits b words w h eb ew a in
    let moved = subst (λ (x : SignalSet). SystemReacts E m x (map (bit_of s) (map (placed bits b) E.outputs)) (map (word_of s) (map (placed words w) E.next))) ei (subst (λ (x : List ℕ). SystemReacts E x (map (bit_of s) bits) (map (bit_of s) (map (placed bits b) E.outputs)) (map (word_of s) (map (placed words w) E.next))) em here) in
    let one : ReactsOnce (SystemReacts E) m i = reacts_once E h m i r.solves.memory r.solves.input in
    let p = one.only _ _ moved in
    let q = one.only o n r in
    (p.0 ∙ sym q.0, p.1 ∙ sym q.1)
