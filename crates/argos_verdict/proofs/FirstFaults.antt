-- What there is in a case that hasn't exactly one reaction, and the first such case.
use Rattle.std.proofs.Common.{◌≡◌, ◌⊎◌, ℕ, ◌+◌, List, length, length-append, refl, sym, ap, ◌∙◌, inl, inr, subst, arith}
use Rattle.argos_base.specs.Machines.{Machine, CodedReaction, reaction_key, case_key, Fault, no_reaction, several}
use Rattle.argos_base.specs.Machines.{IsFaultOf, ReactsOnce, AlwaysReactsOnce, IsFirstBadOf}
use Rattle.argos_base.specs.Orders.{IsEarlier, digits}
use Rattle.argos_base.specs.SignalSets.{SignalSet}
use Rattle.argos_verdict.proofs.Classical.{IsIrrefutable, Decided, decides, IsWithin, all_within, all_sets, IsLeastList, least_list}
use Rattle.argos_verdict.proofs.Keys.{reaction-known, ComesBefore, AreApart, IsPlaced, apart_differ}
use Rattle.eqn_completion.proofs.Ordering.{earlier_total, length-digits}

-- outputs and next memory have these sizes
abbrev AreSized : ℕ → ℕ → SignalSet → List ℕ → Type 0
AreSized outputs words o n = (length o ≡ outputs) × (length n ≡ words)

-- the reactions of one case
module _ (R : Machine) (m : List ℕ) (i : SignalSet) (outputs words : ℕ) (sized : (o : SignalSet) (n : List ℕ) → R m i o n → AreSized outputs words o n) where
  abbrev Is : CodedReaction → Type 0
  Is r = R m i r.outputs r.next

  key_sized : (r : CodedReaction) → Is r → length (reaction_key r) ≡ outputs + words
  key_sized r is =
      let s = sized r.outputs r.next is in
      omega (arith, length-append (digits r.outputs) r.next, length-digits r.outputs, s.0, s.1)

  -- of two reactions one comes first, or they are one
  compared : (r s : CodedReaction) → Is r → Is s → (r ≡ s) ⊎ AreApart r s
  compared r s x y = elim (earlier_total (reaction_key r) (reaction_key s) (key_sized r x ∙ sym (key_sized s y))) [
    | inl same ↦ inl (reaction-known r s ((sized r.outputs r.next x).0 ∙ sym (sized s.outputs s.next y).0) same)
    | inr apart ↦ inr apart
  ]

  -- the list is the key of a reaction with this property
  record IsKey (Has : CodedReaction → Type 0) (key : List ℕ) : Type 0 where
    reaction : CodedReaction
    is : Is reaction
    has : Has reaction
    key_is : key ≡ reaction_key reaction

  -- the least reaction with a property
  record IsLeastWith (Has : CodedReaction → Type 0) (r : CodedReaction) : Type 0 where
    is : Is r
    has : Has r
    least : (s : CodedReaction) → Is s → Has s → ¬ (ComesBefore s r)

  least_with : (Has : CodedReaction → Type 0) (r : CodedReaction) → Is r → Has r → IsIrrefutable ((s : CodedReaction) × IsLeastWith Has s)
  least_with Has r is has fails =
      least_list (outputs + words) (IsKey Has) (reaction_key r) (key_sized r is) (record { reaction = r; is = is; has = has; key_is = refl })
      (λ found. fails (found.1.is.reaction, at found.0 found.1))
    where
      at : (key : List ℕ) (found : IsLeastList (outputs + words) (IsKey Has) key) → IsLeastWith Has found.is.reaction
      at key found = record {
        is = found.is.is;
        has = found.is.has;
        least = λ s other one before. found.least (reaction_key s) (key_sized s other) (record { reaction = s; is = other; has = one; key_is = refl })
            (subst (λ (k : List ℕ). IsEarlier (reaction_key s) k) (sym found.is.key_is) before);
      }

  abbrev IsAny : CodedReaction → Type 0
  IsAny r = Unit {0}

  abbrev IsOther : CodedReaction → CodedReaction → Type 0
  IsOther first r = ¬ (r ≡ first)

  -- where there isn't exactly one reaction, each reaction has another
  not_alone : (first : CodedReaction) → Is first → ¬ (ReactsOnce R m i) → IsIrrefutable ((r : CodedReaction) × Is r × IsOther first r)
  not_alone first x bad fails = bad (record {
    reaction = first;
    reacts = x;
    only = λ o n y. known (record { outputs = o; next = n }) y (compared (record { outputs = o; next = n }) first y x);
  })
    where
      known : (r : CodedReaction) → Is r → (r ≡ first) ⊎ AreApart r first → (r.outputs ≡ first.outputs) × (r.next ≡ first.next)
      known r y (inl same) = (ap (λ (s : CodedReaction). s.outputs) same, ap (λ (s : CodedReaction). s.next) same)
      known r y (inr apart) = absurd (fails (r, y, apart_differ r first apart))

  -- the least reaction, and the least of the others
  two : (first second : CodedReaction) → IsLeastWith IsAny first → IsLeastWith (IsOther first) second → IsFaultOf R m i (several first second)
  two first second a b = (a.is, b.is, ordered (compared first second a.is b.is), λ r x. placed r x (compared r first x a.is))
    where
      ordered : (first ≡ second) ⊎ AreApart first second → ComesBefore first second
      ordered (inl same) = absurd (b.has (sym same))
      ordered (inr (inl before)) = before
      ordered (inr (inr behind)) = absurd (a.least second b.is tt behind)

      other_placed : (r : CodedReaction) → Is r → IsOther first r → (r ≡ second) ⊎ AreApart r second → IsPlaced first second r
      other_placed r x other (inl same) = inr (inl same)
      other_placed r x other (inr (inl before)) = absurd (b.least r x other before)
      other_placed r x other (inr (inr behind)) = inr (inr behind)

      placed : (r : CodedReaction) → Is r → (r ≡ first) ⊎ AreApart r first → IsPlaced first second r
      placed r x (inl same) = inl same
      placed r x (inr apart) = other_placed r x (apart_differ r first apart) (compared r second x b.is)

  -- where there isn't exactly one reaction there is a fault
  pub has_fault : ¬ (ReactsOnce R m i) → IsIrrefutable ((f : Fault) × IsFaultOf R m i f)
  has_fault bad fails = fails (no_reaction, λ o n x. least_with IsAny (record { outputs = o; next = n }) x tt (λ first. told first.0 first.1))
    where
      told : (first : CodedReaction) → IsLeastWith IsAny first → ⊥
      told first a =
          not_alone first a.is bad (λ other. least_with (IsOther first) other.0 other.1 other.2 (λ second.
          fails (several first second.0, two first second.0 a second.1)))

-- the memories lie below bounds, have one size, and so have outputs and next memories
module _ (IsMemory : List ℕ → Type 0) (inputs outputs words : ℕ) (R : Machine) (bounds : List ℕ)
    (within : (m : List ℕ) → IsMemory m → IsWithin bounds m) (counted : (m : List ℕ) → IsMemory m → length m ≡ words)
    (sized : (m : List ℕ) (i o : SignalSet) (n : List ℕ) → R m i o n → AreSized outputs words o n) where
  -- of each case it is decided whether there is exactly one reaction
  abbrev AreDecided : List ℕ → Type 0
  AreDecided m = (i : SignalSet) → length i ≡ inputs → Decided (ReactsOnce R m i)

  abbrev AllDecided : Type 0
  AllDecided = (m : List ℕ) → IsWithin bounds m → AreDecided m

  all_decided : IsIrrefutable AllDecided
  all_decided = all_within bounds AreDecided (λ m. all_sets inputs (λ i. Decided (ReactsOnce R m i)) (λ i. decides (ReactsOnce R m i)))

  -- the list is the key of a case without exactly one reaction
  record IsBadKey (key : List ℕ) : Type 0 where
    memory : List ℕ
    input : SignalSet
    is_memory : IsMemory memory
    is_input : length input ≡ inputs
    bad : ¬ (ReactsOnce R memory input)
    key_is : key ≡ case_key memory input

  case_sized : (m : List ℕ) (i : SignalSet) → IsMemory m → length i ≡ inputs → length (case_key m i) ≡ words + inputs
  case_sized m i is input = let c = counted m is in omega (arith, length-append m (digits i), length-digits i, c, input)

  first_bad : AllDecided → (key : List ℕ) (found : IsLeastList (words + inputs) IsBadKey key) (f : Fault)
      → IsFaultOf R found.is.memory found.is.input f → IsFirstBadOf IsMemory inputs R found.is.memory found.is.input f
  first_bad all key found f fault = record {
    memory = found.is.is_memory;
    input = found.is.is_input;
    fault = fault;
    first = λ n j is input earlier. once n j is input (all n (within n is) j input)
        (subst (λ (k : List ℕ). IsEarlier (case_key n j) k) (sym found.is.key_is) earlier);
  }
    where
      once : (n : List ℕ) (j : SignalSet) → IsMemory n → length j ≡ inputs → Decided (ReactsOnce R n j) → IsEarlier (case_key n j) key → ReactsOnce R n j
      once n j is input (inl one) earlier = one
      once n j is input (inr bad) earlier =
          absurd (found.least (case_key n j) (case_sized n j is input)
          (record { memory = n; input = j; is_memory = is; is_input = input; bad = bad; key_is = refl }) earlier)

  -- each case has exactly one reaction, or there is a first one that hasn't
  pub once_or_bad : IsIrrefutable (AlwaysReactsOnce IsMemory inputs R ⊎ ((m : List ℕ) × (i : SignalSet) × (f : Fault) × IsFirstBadOf IsMemory inputs R m i f))
  once_or_bad fails = all_decided (λ all. fails (inl (λ m i is input. once all m i is input (all m (within m is) i input))))
    where
      told : AllDecided → (key : List ℕ) → IsLeastList (words + inputs) IsBadKey key → ⊥
      told all key found =
          has_fault R found.is.memory found.is.input outputs words (sized found.is.memory found.is.input) found.is.bad
          (λ fault. fails (inr (found.is.memory, found.is.input, fault.0, first_bad all key found fault.0 fault.1)))

      once : AllDecided → (m : List ℕ) (i : SignalSet) → IsMemory m → length i ≡ inputs → Decided (ReactsOnce R m i) → ReactsOnce R m i
      once all m i is input (inl one) = one
      once all m i is input (inr bad) =
          absurd (least_list (words + inputs) IsBadKey (case_key m i) (case_sized m i is input)
          (record { memory = m; input = i; is_memory = is; is_input = input; bad = bad; key_is = refl }) (λ found. told all found.0 found.1))
