-- What a state without a timeout and without a body can do.
use Rattle.std.proofs.Common.{◌≡◌, ℕ, zero, suc, ◌<◌, List, [], ◌∷◌, Some, Bool, true, false, ◌||◌, refl, sym, ap, ◌∙◌, ◌⊎◌, inl, inr, slice_get}
use Rattle.argos_base.specs.Names.{Spelled}
use Rattle.argos_base.specs.SignalSets.{SignalSet, has, lists, empty, set_of, union}
use Rattle.argos_base.proofs.SetLemmas.{has-set_where}
use Rattle.argos_core.specs.Guards.{holds}
use Rattle.argos_core.specs.Process.{Transition, Configuration, at, no_inner, no_body}
use Rattle.argos_core.specs.Step.{NoneHolds, Moves, transition, timeout, count, hold, BodySteps}
use Rattle.argos_examples.specs.Building.{untimed}

-- one of these transitions is taken
abbrev pub IsTaken : ℕ → List Transition → (ℕ → Configuration) → SignalSet → SignalSet → Configuration → Type 0
IsTaken n [] enter v o c' = ⊥
IsTaken n (t ∷ ts) enter v o c' = ((holds t.guard v ≡ true) × (o ≡ union n (set_of n t.outs) (empty n)) × (c' ≡ enter t.target)) ⊎ IsTaken n ts enter v o c'

-- one is taken, or none holds and the state is kept
abbrev pub Outcome : ℕ → List Transition → (ℕ → Configuration) → ℕ → SignalSet → SignalSet → Configuration → Type 0
Outcome n ts enter q v o c' = IsTaken n ts enter v o c' ⊎ (NoneHolds ts v × (o ≡ empty n) × (c' ≡ at q 0 no_inner))

taken : (n : ℕ) (enter : ℕ → Configuration) (v o : SignalSet) (c' : Configuration) (ts : List Transition) (k : ℕ) (t : Transition) → slice_get ts k ≡ Some t → holds t.guard v ≡ true → o ≡ union n (set_of n t.outs) (empty n) → c' ≡ enter t.target → IsTaken n ts enter v o c'
taken n enter v o c' [] k t g h oe ce = cc
taken n enter v o c' (u ∷ ts) zero t g h oe ce =
    let e : u ≡ t = cc in
    inl (ap (λ x. holds x.guard v) e ∙ h, oe ∙ ap (λ x. union n (set_of n x.outs) (empty n)) (sym e), ce ∙ ap (λ x. enter x.target) (sym e))
taken n enter v o c' (u ∷ ts) (suc k) t g h oe ce = inr (taken n enter v o c' ts k t g h oe ce)

pub outcome : (n : ℕ) (name : Spelled) (ts : List Transition) (enter : ℕ → Configuration) (q : ℕ) (v o : SignalSet) (c' : Configuration) → Moves n (untimed name ts) enter q 0 (BodySteps n no_body no_inner v) v o c' → Outcome n ts enter q v o c'
outcome n name ts enter q v o c' (transition k t ob b' g h body oe ce) = inl (taken n enter v o c' ts k t g h (oe ∙ ap (union n (set_of n t.outs)) body.0) ce)
outcome n name ts enter q v o c' (timeout w ob b' none is s last body oe ce) = cc
outcome n name ts enter q v o c' (count w b' none is s more body ce) = cc
outcome n name ts enter q v o c' (hold b' none quiet body ce) = inr (none, body.0, ce ∙ ap (at q 0) body.1)

or_nothing : (b c : Bool) → c ≡ false → (b || c) ≡ b
or_nothing true c h = refl
or_nothing false c h = h

-- what a transition emits alone
pub has-emitted : (n : ℕ) (list : List ℕ) (k : ℕ) → k < n → has (union n (set_of n list) (empty n)) k ≡ lists list k
has-emitted n list k below =
    has-set_where n (λ j. has (set_of n list) j || has (empty n) j) k below
    ∙ or_nothing (has (set_of n list) k) (has (empty n) k) (has-set_where n (λ j. false) k below)
    ∙ has-set_where n (lists list) k below
