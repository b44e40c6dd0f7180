-- The words of a line, between single spaces.
use Rattle.std.specs.Prelude.{ℕ, List, [], ◌∷◌, ◌++◌, nat_eq, cond, Option, Some, None}
use Rattle.std.specs.Borrow.{Bor}
use Rattle.argos_base.specs.Names.{Spelled}

abbrev pub on_first : ℕ → List Spelled → List Spelled
on_first b [] = (b ∷ []) ∷ []
on_first b (w ∷ ws) = (b ∷ w) ∷ ws

-- the words between spaces
abbrev pub split : List ℕ → List Spelled
split [] = [] ∷ []
split (b ∷ bs) = cond (nat_eq b 32) ([] ∷ split bs) (on_first b (split bs))

-- the words of what is left, if anything is
abbrev pub words_left : Option (Bor (List ℕ)) → List Spelled
words_left None = []
words_left (Some rest) = split rest.now

-- each word behind a space
abbrev pub behind_spaces : List Spelled → List ℕ
behind_spaces [] = []
behind_spaces (w ∷ ws) = 32 ∷ w ++ behind_spaces ws
