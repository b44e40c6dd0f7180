-- What is read from the front of the bytes of a line.
use Rattle.std.specs.Prelude.{ℕ, ◌-◌, List, [], ◌∷◌, Bool, ◌&&◌, Option, Some, None, codes, bytes_eq, nat_eq, nat_lt, is_some, unwrap_or, cond, length, take, drop}
use Rattle.std.specs.Char.{is_ascii_digit}
use Rattle.argos_base.specs.Spelling.{is_numeral, number_of}
use Rattle.line_format.proofs.Options.{bind, only_if}

-- the bytes behind this text
abbrev pub behind : List ℕ → List ℕ → Option (List ℕ)
behind [] l = Some l
behind (b ∷ t) [] = None
behind (b ∷ t) (c ∷ l) = only_if (nat_eq c b) (behind t l)

-- whether the text stands in front, and what is left without it
abbrev pub begins : List ℕ → List ℕ → Bool
begins t l = is_some (behind t l)

abbrev pub skipped : List ℕ → List ℕ → List ℕ
skipped t l = unwrap_or (behind t l) l

-- the text, and the end of the line
abbrev pub last : {A : Type 0} → List ℕ → A → List ℕ → Option A
last t a l = only_if (bytes_eq l t) (Some a)

-- what was read, and the bytes behind it
pub record Taken (A : Type 0) : Type 0 where
  pub value : A
  pub rest : List ℕ

abbrev pub taken : {A : Type 0} → A → List ℕ → Taken A
taken a l = record { value = a; rest = l }

-- the longest front that passes a test, and the bytes behind it
abbrev pub front_of : (ℕ → Bool) → List ℕ → List ℕ
front_of p [] = []
front_of p (c ∷ l) = cond (p c) (c ∷ front_of p l) []

abbrev pub behind_front : (ℕ → Bool) → List ℕ → List ℕ
behind_front p [] = []
behind_front p (c ∷ l) = cond (p c) (behind_front p l) (c ∷ l)

-- the bytes before this text at the end
abbrev pub before : List ℕ → List ℕ → Option (List ℕ)
before t l = only_if (bytes_eq (drop (length l - length t) l) t) (Some (take (length l - length t) l))

-- the number that the digits spell, where it is below the end
abbrev pub number : ℕ → List ℕ → Option ℕ
number end ds = only_if (is_numeral ds && nat_lt (number_of ds) end) (Some (number_of ds))

abbrev pub take_number : ℕ → List ℕ → Option (Taken ℕ)
take_number end l = bind (number end (front_of is_ascii_digit l)) (λ n. Some (taken n (behind_front is_ascii_digit l)))

-- a place of an array that has so many
abbrev pub take_index : List ℕ → ℕ → List ℕ → Option (Taken ℕ)
take_index array end l = bind (behind array l) (λ l. bind (take_number end l) (λ t. bind (behind (codes "]") t.rest) (λ l. Some (taken t.value l))))
