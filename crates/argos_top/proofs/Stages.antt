-- Stages that come to one thing, and what stages gave.
use Rattle.std.proofs.Common.{◌≡◌, sym, ap, subst, ◌∙◌}
use Rattle.argos_load.specs.Said.{Said}
use Rattle.argos_load.specs.Stages.{Stage, gives, says, ◌then◌, Goes, ◌finally◌, Ends}

abbrev pub IsOne : {A : Type 0} → (A → Type 0) → Type 0
IsOne {A} P = (x y : A) → P x → P y → x ≡ y

pub same_value : {A : Type 0} (a b : A) → gives a ≡ gives b → a ≡ b
same_value a b e = cc

-- what a stage said
abbrev pub said_in : {A : Type 0} → Stage A → Said → Said
said_in (gives a) d = d
said_in (says s) d = s

-- stages of which each comes to one thing come to one thing

goes_one : {A B : Type 0} (first : Stage A → Type 0) (next : A → Stage B → Type 0) → ((a : A) → first (gives a) → IsOne (next a)) → (x y : Stage A) → first y → x ≡ y → (r t : Stage B) → Goes next x r → Goes next y t → r ≡ t
goes_one first next each (gives a) (gives b) p e r t h k = each b p r t (subst (λ c. next c r) (same_value a b e) h) k
goes_one first next each (gives a) (says s) p e r t h k = cc
goes_one first next each (says s) (gives b) p e r t h k = cc
goes_one first next each (says s) (says u) p e r t h k = h ∙ ap says (ap (λ x. said_in x s) e) ∙ sym k

pub then_one : {A B : Type 0} (first : Stage A → Type 0) (next : A → Stage B → Type 0) → IsOne first → ((a : A) → first (gives a) → IsOne (next a)) → IsOne (first then next)
then_one first next one each r t h k = goes_one first next each h.0 k.0 k.1 (one h.0 k.0 h.1 k.1) r t h.2 k.2

ends_one : {A : Type 0} (first : Stage A → Type 0) (last : A → Said → Type 0) → ((a : A) → first (gives a) → IsOne (last a)) → (x y : Stage A) → first y → x ≡ y → (r t : Said) → Ends last x r → Ends last y t → r ≡ t
ends_one first last each (gives a) (gives b) p e r t h k = each b p r t (subst (λ c. last c r) (same_value a b e) h) k
ends_one first last each (gives a) (says s) p e r t h k = cc
ends_one first last each (says s) (gives b) p e r t h k = cc
ends_one first last each (says s) (says u) p e r t h k = h ∙ ap (λ x. said_in x s) e ∙ sym k

pub finally_one : {A : Type 0} (first : Stage A → Type 0) (last : A → Said → Type 0) → IsOne first → ((a : A) → first (gives a) → IsOne (last a)) → IsOne (first finally last)
finally_one first last one each r t h k = ends_one first last each h.0 k.0 k.1 (one h.0 k.0 h.1 k.1) r t h.2 k.2

-- the first stage gave this, and the next one that
pub record Gave {A B : Type 0} (first : Stage A → Type 0) (next : A → Stage B → Type 0) (b : B) : Type 0 where
  pub value : A
  pub before : first (gives value)
  pub behind : next value (gives b)

pub gave : {A B : Type 0} (first : Stage A → Type 0) (next : A → Stage B → Type 0) (b : B) → (first then next) (gives b) → Gave first next b
gave first next b (gives a, h, r) = record { value = a; before = h; behind = r }
gave first next b (says s, h, r) = cc
