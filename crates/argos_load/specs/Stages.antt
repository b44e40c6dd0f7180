-- A call goes through stages, one after the other: each gives what the next one needs, or says what ends the call. Source: this project.
use Rattle.std.specs.Prelude.{◌≡◌}
use Rattle.argos_load.specs.Said.{Said}

-- what a stage gives, or what is said in its place
pub data Stage (V : Type 0) : Type 0 where
  gives : V → Stage V
  says : Said → Stage V

-- the next stage follows from what was given, and what was said ends the call
abbrev pub Goes : {A B : Type 0} → (A → Stage B → Type 0) → Stage A → Stage B → Type 0
Goes next (gives a) = next a
Goes next (says s) = λ r. r ≡ says s

abbrev pub Ends : {A : Type 0} → (A → Said → Type 0) → Stage A → Said → Type 0
Ends last (gives a) = last a
Ends last (says s) = λ r. r ≡ s

-- one stage, and then the next
infixr 5 ◌then◌
abbrev pub ◌then◌ : {A B : Type 0} → (Stage A → Type 0) → (A → Stage B → Type 0) → Stage B → Type 0
(first then next) r = (x : Stage _) × first x × Goes next x r

-- stages, and then what is said at last
infixr 5 ◌finally◌
abbrev pub ◌finally◌ : {A : Type 0} → (Stage A → Type 0) → (A → Said → Type 0) → Said → Type 0
(first finally last) s = (x : Stage _) × first x × Ends last x s
