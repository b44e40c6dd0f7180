-- The reactions at one memory and input, from the answers of tests.
use Rattle.std.proofs.Common.{◌≡◌, ℕ, List, [], ◌++◌, Bool, true, false, refl, sym, ap, ◌∙◌, ◌⊎◌, inl, inr, subst, length, take, drop, replicate}
use Rattle.std.proofs.lemmas.List.{append-nil, take_at, drop_at, length-map}
use Rattle.argos_base.specs.Machines.{Machine, CodedReaction, reaction_key, no_reaction, several, IsFaultOf, ReactsOnce}
use Rattle.argos_base.specs.Orders.{IsEarlier, digits}
use Rattle.argos_base.specs.SignalSets.{SignalSet}
use Rattle.argos_base.proofs.Bools.{true_or_false, and_first, and_second, and_both, not_false, false_not, is_false}
use Rattle.eqn_completion.specs.Binary.{in_binary, memory_of, FitsIn}
use Rattle.eqn_verdict.specs.Searching.{Test, some, without, some_differ, answers, least_answers, has_answers}
use Rattle.eqn_verdict.specs.Verdicts.{bits_of, reaction_of}
use Rattle.eqn_completion.proofs.Ordering.{earlier_front, earlier_behind, earlier_cases, digits-append, length-digits, memory-binary, memory-back}
use Rattle.eqn_verdict.proofs.Searches.{Passing, some-holds, some-from, some-none, least-answered, least-answers-first, has-answers, has-none, same-answers, two-answers}

-- so many outputs and next words, of 16 digits each
pub record IsSized (outputs words : ℕ) (r : CodedReaction) : Type 0 where
  pub outputs_sized : length r.outputs ≡ outputs
  pub next_sized : length r.next ≡ words
  pub fits : FitsIn (replicate words 16) r.next

abbrev reaction : SignalSet → List ℕ → CodedReaction
reaction o n = record { outputs = o; next = n }

same_reaction : (r s : CodedReaction) → r.outputs ≡ s.outputs → r.next ≡ s.next → r ≡ s
same_reaction r s e f = ap (λ (o : SignalSet). reaction o r.next) e ∙ ap (λ (n : List ℕ). reaction s.outputs n) f

pub reaction-bits : (outputs words : ℕ) (r : CodedReaction) → IsSized outputs words r → reaction_of outputs words (bits_of r) ≡ r
reaction-bits outputs words r h =
    let ws = replicate words 16 in
    let behind : List Bool = in_binary (replicate (length r.next) 16) r.next in
    let o : take outputs (r.outputs ++ behind) ≡ r.outputs = take_at r.outputs behind outputs h.outputs_sized in
    let b : behind ≡ in_binary ws r.next = ap (λ (n : ℕ). in_binary (replicate n 16) r.next) h.next_sized in
    let n : memory_of ws (drop outputs (r.outputs ++ behind)) ≡ r.next =
    ap (memory_of ws) (drop_at r.outputs behind outputs h.outputs_sized ∙ b ∙ sym (append-nil (in_binary ws r.next))) ∙ memory-binary ws r.next [] h.fits in
    same_reaction _ r o n

pub bits-same : (outputs words : ℕ) (r s : CodedReaction) → IsSized outputs words r → IsSized outputs words s → bits_of r ≡ bits_of s → r ≡ s
bits-same outputs words r s h k e = sym (reaction-bits outputs words r h) ∙ ap (reaction_of outputs words) e ∙ reaction-bits outputs words s k

-- reactions are in the order of their bits
pub bits-earlier : (outputs words : ℕ) (r s : CodedReaction) → IsSized outputs words r → IsSized outputs words s → IsEarlier (digits (bits_of r)) (digits (bits_of s)) → IsEarlier (reaction_key r) (reaction_key s)
bits-earlier outputs words r s h k l =
    let br : List Bool = in_binary (replicate (length r.next) 16) r.next in
    let bs : List Bool = in_binary (replicate (length s.next) 16) s.next in
    let split : IsEarlier (digits r.outputs ++ digits br) (digits s.outputs ++ digits bs) =
    subst (λ (z : List ℕ). IsEarlier z (digits s.outputs ++ digits bs)) (digits-append r.outputs br) (subst (λ (z : List ℕ). IsEarlier (digits (bits_of r)) z) (digits-append s.outputs bs) l) in
    elim (earlier_cases (digits r.outputs) (digits s.outputs) (digits br) (digits bs) (length-digits r.outputs ∙ h.outputs_sized ∙ sym k.outputs_sized ∙ sym (length-digits s.outputs)) split) [
      | inl first ↦ earlier_front (digits r.outputs) (digits s.outputs) r.next s.next first
      | inr rest ↦ subst (λ (z : List ℕ). IsEarlier (digits r.outputs ++ r.next) (z ++ s.next)) rest.0 (earlier_behind (digits r.outputs) r.next s.next (next_earlier rest.1))
    ]
  where
    next_earlier : IsEarlier (digits (in_binary (replicate (length r.next) 16) r.next)) (digits (in_binary (replicate (length s.next) 16) s.next)) → IsEarlier r.next s.next
    next_earlier l =
        let ws = replicate words 16 in
        let one : IsEarlier (digits (in_binary ws r.next)) (digits (in_binary (replicate (length s.next) 16) s.next)) = subst (λ (n : ℕ). IsEarlier (digits (in_binary (replicate n 16) r.next)) (digits (in_binary (replicate (length s.next) 16) s.next))) h.next_sized l in
        let two : IsEarlier (digits (in_binary ws r.next)) (digits (in_binary ws s.next)) = subst (λ (n : ℕ). IsEarlier (digits (in_binary ws r.next)) (digits (in_binary (replicate n 16) s.next))) k.next_sized one in
        let ended : IsEarlier (digits (in_binary ws r.next) ++ []) (digits (in_binary ws s.next) ++ []) =
        subst (λ (z : List ℕ). IsEarlier z (digits (in_binary ws s.next) ++ [])) (sym (append-nil (digits (in_binary ws r.next)))) (subst (λ (z : List ℕ). IsEarlier (digits (in_binary ws r.next)) z) (sym (append-nil (digits (in_binary ws s.next)))) two) in
        subst (λ (z : List ℕ). IsEarlier z s.next) (append-nil r.next) (subst (λ (z : List ℕ). IsEarlier (r.next ++ []) z) (append-nil s.next) (memory-back ws r.next s.next [] [] h.fits k.fits refl ended))

-- some values that pass have this reaction's bits as answers
pub record IsReached (c : ℕ) (K : Test) (gs : List Test) (r : CodedReaction) : Type 0 where
  pub passing : Passing c K
  pub are : answers gs passing.values ≡ bits_of r

-- the values that pass give a reaction
pub record Gives (R : Machine) (m : List ℕ) (i : SignalSet) (bits : List Bool) : Type 0 where
  pub reaction : CodedReaction
  pub reacts : R m i reaction.outputs reaction.next
  pub are : bits_of reaction ≡ bits

module _ (outputs words c : ℕ) (K : Test) (gs : List Test) (R : Machine) (m : List ℕ) (i : SignalSet) (sized : (r : CodedReaction) → R m i r.outputs r.next → IsSized outputs words r) (reached : (r : CodedReaction) → R m i r.outputs r.next → IsReached c K gs r) (gives : (x : SignalSet) → length x ≡ c → K x ≡ true → Gives R m i (answers gs x)) where
  pub at_none : some c K ≡ false → IsFaultOf R m i no_reaction
  at_none n = λ o m' r. let p = (reached (record { outputs = o; next = m' }) r).passing in some-none c K p.values n p.sized p.passes

  pub at_once : some c K ≡ true → some_differ c K gs ≡ false → ReactsOnce R m i
  at_once h n =
      let p = some-holds c K h in
      let g = gives p.values p.sized p.passes in
      record {
        reaction = g.reaction;
        reacts = g.reacts;
        only = λ o m' r.
            let other : CodedReaction = record { outputs = o; next = m' } in
            let q = reached other r in
            let same : other ≡ g.reaction = bits-same outputs words other g.reaction (sized other r) (sized g.reaction g.reacts) (sym q.are ∙ same-answers c K gs q.passing.values p.values n q.passing.sized p.sized q.passing.passes p.passes ∙ sym g.are) in
            (ap (λ (z : CodedReaction). z.outputs) same, ap (λ (z : CodedReaction). z.next) same);
      }

  pub once_some : ReactsOnce R m i → some c K ≡ true
  once_some h = let p = (reached h.reaction h.reacts).passing in some-from c K p.values p.sized p.passes

  pub once_same : ReactsOnce R m i → some_differ c K gs ≡ false
  once_same h = is_false (some_differ c K gs) (λ d.
      let t = two-answers c K gs d in
      let a = gives t.first.values t.first.sized t.first.passes in
      let b = gives t.second.values t.second.sized t.second.passes in
      let ea = h.only a.reaction.outputs a.reaction.next a.reacts in
      let eb = h.only b.reaction.outputs b.reaction.next b.reacts in
      let same : a.reaction ≡ b.reaction = same_reaction a.reaction b.reaction (ea.0 ∙ sym eb.0) (ea.1 ∙ sym eb.1) in
      t.differ (sym a.are ∙ ap bits_of same ∙ b.are))

  abbrev first_bits : List Bool
  first_bits = least_answers c K gs

  abbrev others : Test
  others = without K (has_answers gs first_bits)

  abbrev second_bits : List Bool
  second_bits = least_answers c others gs

  first-sized : some c K ≡ true → length first_bits ≡ length gs
  first-sized h = let a = least-answered c K gs h in ap length (sym a.1) ∙ length-map gs (λ (g : Test). g a.0.values)

  other_passes : (x : SignalSet) → K x ≡ true → (answers gs x ≡ first_bits → ⊥) → some c K ≡ true → others x ≡ true
  other_passes x k n h = and_both (K x) _ k (false_not (has_answers gs first_bits x) (is_false (has_answers gs first_bits x) (λ t. n (has-answers gs first_bits x t (first-sized h)))))

  some_others : some c K ≡ true → some_differ c K gs ≡ true → some c others ≡ true
  some_others h d =
      let t = two-answers c K gs d in
      elim (true_or_false (has_answers gs first_bits t.first.values)) [
        | inl same ↦ some-from c others t.second.values t.second.sized (other_passes t.second.values t.second.passes (λ e. t.differ (has-answers gs first_bits t.first.values same (first-sized h) ∙ sym e)) h)
        | inr other ↦ some-from c others t.first.values t.first.sized (and_both (K t.first.values) _ t.first.passes (false_not (has_answers gs first_bits t.first.values) other))
      ]

  pub at_several : some c K ≡ true → some_differ c K gs ≡ true → IsFaultOf R m i (several (reaction_of outputs words first_bits) (reaction_of outputs words second_bits))
  at_several h d =
      let a = least-answered c K gs h in
      let b = least-answered c others gs (some_others h d) in
      let b_passes : K b.0.values ≡ true = and_first (K b.0.values) _ b.0.passes in
      let ga = gives a.0.values a.0.sized a.0.passes in
      let gb = gives b.0.values b.0.sized b_passes in
      let ea : reaction_of outputs words first_bits ≡ ga.reaction = ap (reaction_of outputs words) (sym a.1 ∙ sym ga.are) ∙ reaction-bits outputs words ga.reaction (sized ga.reaction ga.reacts) in
      let eb : reaction_of outputs words second_bits ≡ gb.reaction = ap (reaction_of outputs words) (sym b.1 ∙ sym gb.are) ∙ reaction-bits outputs words gb.reaction (sized gb.reaction gb.reacts) in
      let order : IsEarlier (reaction_key ga.reaction) (reaction_key gb.reaction) =
      bits-earlier outputs words ga.reaction gb.reaction (sized ga.reaction ga.reacts) (sized gb.reaction gb.reacts)
      (subst (λ (z : List Bool). IsEarlier (digits z) (digits (bits_of gb.reaction))) (sym (ga.are ∙ a.1))
      (subst (λ (z : List Bool). IsEarlier (digits first_bits) (digits z)) (sym gb.are)
      (after_first b.0.values b.0.sized b_passes (not_false _ (and_second (K b.0.values) _ b.0.passes))))) in
      subst (λ (z : CodedReaction). IsFaultOf R m i (several z (reaction_of outputs words second_bits))) (sym ea)
      (subst (λ (z : CodedReaction). IsFaultOf R m i (several ga.reaction z)) (sym eb)
      (ga.reacts, gb.reacts, order, λ r reacts. rest ga.reaction gb.reaction ga.reacts gb.reacts (ga.are ∙ a.1) (gb.are ∙ b.1) r reacts))
    where
      after_first : (x : SignalSet) → length x ≡ c → K x ≡ true → has_answers gs first_bits x ≡ false → IsEarlier (digits first_bits) (digits (answers gs x))
      after_first x e k n = elim (least-answers-first c K gs x e k) [
        | inl same ↦ absurd (has-none gs first_bits x n same)
        | inr later ↦ later
      ]

      rest : (p q : CodedReaction) → R m i p.outputs p.next → R m i q.outputs q.next → bits_of p ≡ first_bits → bits_of q ≡ second_bits → (r : CodedReaction) → R m i r.outputs r.next → (r ≡ p) ⊎ ((r ≡ q) ⊎ IsEarlier (reaction_key q) (reaction_key r))
      rest p q rp rq ep eq r reacts =
          let w = reached r reacts in
          let x = w.passing.values in
          elim (true_or_false (has_answers gs first_bits x)) [
            | inl same ↦ inl (bits-same outputs words r p (sized r reacts) (sized p rp) (sym w.are ∙ has-answers gs first_bits x same (first-sized h) ∙ sym ep))
            | inr other ↦ inr (elim (least-answers-first c others gs x w.passing.sized (and_both (K x) _ w.passing.passes (false_not (has_answers gs first_bits x) other))) [
              | inl same ↦ inl (bits-same outputs words r q (sized r reacts) (sized q rq) (sym w.are ∙ same ∙ sym eq))
              | inr later ↦ inr (bits-earlier outputs words q r (sized q rq) (sized r reacts) (subst (λ (z : List Bool). IsEarlier (digits z) (digits (bits_of r))) (sym eq) (subst (λ (z : List Bool). IsEarlier (digits second_bits) (digits z)) w.are later)))
            ])
          ]
