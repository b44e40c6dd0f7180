-- The lists of numbers by which cases and reactions are compared.
use Rattle.std.proofs.Common.{◌≡◌, ◌⊎◌, ℕ, List, [], ◌∷◌, ◌++◌, length, take, drop, refl, sym, ap, ◌∙◌, inl, inr, subst, arith}
use Rattle.std.proofs.lemmas.List.{take_at, drop_at}
use Rattle.argos_base.specs.Machines.{CodedReaction, reaction_key, case_key}
use Rattle.argos_base.specs.Orders.{IsEarlier, digits}
use Rattle.argos_base.specs.SignalSets.{SignalSet}
use Rattle.eqn_completion.proofs.Ordering.{not_itself, digits-same, length-digits}

pub earlier_later : (p q r : List ℕ) → IsEarlier p q → IsEarlier q r → IsEarlier p r
earlier_later [] q r h k = absurd h
earlier_later (x ∷ p) [] r h k = absurd h
earlier_later (x ∷ p) (y ∷ q) [] h k = absurd k
earlier_later (x ∷ p) (y ∷ q) (z ∷ r) (inl a) (inl b) = inl (omega (arith, a, b))
earlier_later (x ∷ p) (y ∷ q) (z ∷ r) (inl a) (inr b) = let e = b.0 in inl (omega (arith, a, e))
earlier_later (x ∷ p) (y ∷ q) (z ∷ r) (inr a) (inl b) = let e = a.0 in inl (omega (arith, e, b))
earlier_later (x ∷ p) (y ∷ q) (z ∷ r) (inr a) (inr b) = inr (a.0 ∙ b.0, earlier_later p q r a.1 b.1)

-- two appended lists that are equal have equal parts, where the first parts have one length
parts : (a b c d : List ℕ) → length a ≡ length c → a ++ b ≡ c ++ d → (a ≡ c) × (b ≡ d)
parts a b c d sized same = (
  sym (take_at a b (length c) sized) ∙ ap (take (length c)) same ∙ take_at c d (length c) refl,
  sym (drop_at a b (length c) sized) ∙ ap (drop (length c)) same ∙ drop_at c d (length c) refl,
)

pub case-known : (m n : List ℕ) (i j : SignalSet) → length m ≡ length n → case_key m i ≡ case_key n j → (m ≡ n) × (i ≡ j)
case-known m n i j sized same = let p = parts m (digits i) n (digits j) sized same in (p.0, digits-same i j p.1)

pub reaction-known : (r s : CodedReaction) → length r.outputs ≡ length s.outputs → reaction_key r ≡ reaction_key s → r ≡ s
reaction-known r s sized same =
    let p = parts (digits r.outputs) r.next (digits s.outputs) s.next (length-digits r.outputs ∙ sized ∙ sym (length-digits s.outputs)) same in
    ap (λ (o : SignalSet). record { outputs = o; next = r.next }) (digits-same r.outputs s.outputs p.0)
    ∙ ap (λ (n : List ℕ). record { outputs = s.outputs; next = n }) p.1

-- ---- the order of reactions

abbrev pub ComesBefore : CodedReaction → CodedReaction → Type 0
ComesBefore r s = IsEarlier (reaction_key r) (reaction_key s)

abbrev pub AreApart : CodedReaction → CodedReaction → Type 0
AreApart r s = ComesBefore r s ⊎ ComesBefore s r

-- it is one of these two, or comes after the second
abbrev pub IsPlaced : CodedReaction → CodedReaction → CodedReaction → Type 0
IsPlaced first second r = (r ≡ first) ⊎ ((r ≡ second) ⊎ ComesBefore second r)

pub same_before : (a b c : CodedReaction) → a ≡ b → ComesBefore a c → ComesBefore b c
same_before a b c same before = subst (λ (r : CodedReaction). ComesBefore r c) same before

pub before_same : (a b c : CodedReaction) → a ≡ b → ComesBefore c a → ComesBefore c b
before_same a b c same before = subst (λ (r : CodedReaction). ComesBefore c r) same before

pub apart_differ : (r s : CodedReaction) → AreApart r s → ¬ (r ≡ s)
apart_differ r s (inl before) same = not_itself (reaction_key s) (same_before r s s same before)
apart_differ r s (inr behind) same = not_itself (reaction_key s) (before_same r s s same behind)
