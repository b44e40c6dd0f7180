-- One word of clap's walk for a simple command.
use Rattle.std.proofs.Common.{◌≡◌, ℕ, List, [], ◌∷◌, Bool, true, false, ◌&&◌, cond, Option, Some, None, refl, ap, codes}
use Rattle.std.specs.Prelude.{bytes_eq, slice_get}
use Rattle.std.specs.Str.{chars}
use Rattle.argos_base.specs.Spelling.{is_one_of}
use Rattle.argos_words.specs.Words.{Words}
use Rattle.argos_words.proofs.Rules.{plain_built, option_built, rules, shape, bytes_eq-refl, known_long, unknown_long, known_id, no_short}
use Rattle.clap.specs.Lexer.{long_of, short_of}
use Rattle.clap.specs.Walk.{Row, Text, Held, Walk, Waiting, idle, option, positional, used, walked, settled, settled_rows, pushed, is_pending}
use Rattle.clap.specs.Kinds.{Kinds, or_else}
use Rattle.clap.specs.Faults.{turn_fault, settle_fault, repeat_fault, flags_fault}
use Rattle.clap.specs.declared.error.kind.ErrorKind.TheVariants.{UnknownArgument, InvalidValue}

-- where the walk stands
abbrev pub at : List Row → Option (Text × List Text) → Waiting → Bool → Walk
at rows p w trailing = record {
  held = record { rows = rows; pending = p; skip = 0 };
  waiting = w;
  position = 1;
  is_trailing = trailing;
  stopped = None;
}

-- what it comes to where it ends there
abbrev pub rows_at : Words → Option (Text × List Text) → List Row → List Row
rows_at names p rows = settled_rows (rules names) p rows

abbrev pub fault_at : Words → Option (Text × List Text) → List Row → Kinds
fault_at names p rows = settle_fault (rules names) false (record { rows = rows; pending = p; skip = 0 })

-- no option waits for its value
abbrev pub IsFree : Waiting → Type 0
IsFree (option id) = ⊥
IsFree _ = Unit {0}

and_false : (b : Bool) → (b && false) ≡ false
and_false true = refl
and_false false = refl

or_else_nothing : (ks : Kinds) → or_else ks [] ≡ ks
or_else_nothing [] = refl
or_else_nothing (k ∷ ks) = refl

-- behind the two dashes each word is plain
pub trailing_fault : (command : Text) (names : Words) (rows : List Row) (p : Option (Text × List Text)) (w : Waiting) (v : Text)
    → turn_fault (shape command names) [] (at rows p w true) v ≡ fault_at names p rows
trailing_fault command names rows p w v = ap (λ b. cond b [] (fault_at names p rows)) (and_false (is_pending plain_built p))

pub trailing_walk : (names : Words) (rows : List Row) (p : Option (Text × List Text)) (w : Waiting) (v : Text)
    → walked (rules names) [] (at rows p w true) v ≡ at (rows_at names p rows) (Some (codes "words", v ∷ [])) positional true
unfolding walked
trailing_walk names rows p w v =
    ap (λ (b : Bool). after (cond b held (settled (rules names) held))) (and_false (is_pending plain_built p))
  where
    held : Held
    held = record { rows = rows; pending = p; skip = 0 }

    after : Held → Walk
    after h = record { held = pushed (codes "words") v h; waiting = positional; position = 1; is_trailing = true; stopped = None }

-- a plain word before them
pub plain_fault : (command : Text) (names : Words) (rows : List Row) (p : Option (Text × List Text)) (w : Waiting) (v : Text) → IsFree w
    → bytes_eq v (codes "--") ≡ false → long_of v ≡ None → short_of v ≡ None
    → turn_fault (shape command names) [] (at rows p w false) v ≡ fault_at names p rows
plain_fault command names rows p idle v f d l s = rw (d, l, s) (ap (λ b. cond b [] (fault_at names p rows)) (and_false (is_pending plain_built p)))
plain_fault command names rows p positional v f d l s = rw (d, l, s) (ap (λ b. cond b [] (fault_at names p rows)) (and_false (is_pending plain_built p)))
plain_fault command names rows p (option id) v f d l s = absurd f

module _ (names : Words) (rows : List Row) (p : Option (Text × List Text)) (v : Text) where
  held_now : Held
  held_now = record { rows = rows; pending = p; skip = 0 }

  after_plain : Bool → Walk
  after_plain b = record { held = pushed (codes "words") v (cond b held_now (settled (rules names) held_now)); waiting = positional; position = 1; is_trailing = false; stopped = None }

  pub plain_walk : (w : Waiting) → IsFree w → bytes_eq v (codes "--") ≡ false → long_of v ≡ None → short_of v ≡ None
      → walked (rules names) [] (at rows p w false) v ≡ at (rows_at names p rows) (Some (codes "words", v ∷ [])) positional false
  unfolding walked held_now after_plain
  plain_walk idle f d l s = rw (d, l, s) (ap after_plain (and_false (is_pending plain_built p)))
  plain_walk positional f d l s = rw (d, l, s) (ap after_plain (and_false (is_pending plain_built p)))
  plain_walk (option id) f d l s = absurd f

-- the two dashes
pub dashes_fault : (command : Text) (names : Words) (rows : List Row) (p : Option (Text × List Text)) (w : Waiting) → turn_fault (shape command names) [] (at rows p w false) (codes "--") ≡ []
dashes_fault command names rows p idle = refl
dashes_fault command names rows p positional = refl
dashes_fault command names rows p (option id) = refl

pub dashes_walk : (names : Words) (rows : List Row) (p : Option (Text × List Text)) (w : Waiting) → walked (rules names) [] (at rows p w false) (codes "--") ≡ at rows p w true
unfolding walked
dashes_walk names rows p idle = refl
dashes_walk names rows p positional = refl
dashes_walk names rows p (option id) = refl

-- an option with its value in one word
pub joined_fault : (command : Text) (names : Words) (rows : List Row) (p : Option (Text × List Text)) (w : Waiting) (v n x : Text)
    → bytes_eq v (codes "--") ≡ false → long_of v ≡ Some (n, Some x) → is_one_of names n ≡ true
    → turn_fault (shape command names) [] (at rows p w false) v ≡ or_else (fault_at names p rows) (or_else (repeat_fault false n (rows_at names p rows)) [])
joined_fault command names rows p idle v n x d l k = rw (d, l, known_long names n k) (or_else_nothing _)
joined_fault command names rows p positional v n x d l k = rw (d, l, known_long names n k) (or_else_nothing _)
joined_fault command names rows p (option id) v n x d l k = rw (d, l, known_long names n k) (or_else_nothing _)

pub joined_walk : (names : Words) (rows : List Row) (p : Option (Text × List Text)) (w : Waiting) (v n x : Text)
    → bytes_eq v (codes "--") ≡ false → long_of v ≡ Some (n, Some x) → is_one_of names n ≡ true
    → walked (rules names) [] (at rows p w false) v ≡ at (used (option_built n) (x ∷ []) (rows_at names p rows)) None idle false
unfolding walked
joined_walk names rows p idle v n x d l k = rw (d, l, known_long names n k) refl
joined_walk names rows p positional v n x d l k = rw (d, l, known_long names n k) refl
joined_walk names rows p (option id) v n x d l k = rw (d, l, known_long names n k) refl

-- an option whose value is the next word
pub apart_fault : (command : Text) (names : Words) (rows : List Row) (p : Option (Text × List Text)) (w : Waiting) (v n : Text)
    → bytes_eq v (codes "--") ≡ false → long_of v ≡ Some (n, None) → is_one_of names n ≡ true
    → turn_fault (shape command names) [] (at rows p w false) v ≡ fault_at names p rows
apart_fault command names rows p idle v n d l k = rw (d, l, known_long names n k) (or_else_nothing _)
apart_fault command names rows p positional v n d l k = rw (d, l, known_long names n k) (or_else_nothing _)
apart_fault command names rows p (option id) v n d l k = rw (d, l, known_long names n k) (or_else_nothing _)

pub apart_walk : (names : Words) (rows : List Row) (p : Option (Text × List Text)) (w : Waiting) (v n : Text)
    → bytes_eq v (codes "--") ≡ false → long_of v ≡ Some (n, None) → is_one_of names n ≡ true
    → walked (rules names) [] (at rows p w false) v ≡ at (rows_at names p rows) (Some (n, [])) (option n) false
unfolding walked
apart_walk names rows p idle v n d l k = rw (d, l, known_long names n k) refl
apart_walk names rows p positional v n d l k = rw (d, l, known_long names n k) refl
apart_walk names rows p (option id) v n d l k = rw (d, l, known_long names n k) refl

-- an option that the command doesn't have
pub unknown_fault : (command : Text) (names : Words) (rows : List Row) (p : Option (Text × List Text)) (w : Waiting) (v n : Text) (x : Option Text)
    → bytes_eq v (codes "--") ≡ false → long_of v ≡ Some (n, x) → is_one_of names n ≡ false
    → turn_fault (shape command names) [] (at rows p w false) v ≡ UnknownArgument ∷ []
unknown_fault command names rows p idle v n x d l k = rw (d, l, unknown_long names n k) refl
unknown_fault command names rows p positional v n x d l k = rw (d, l, unknown_long names n k) refl
unknown_fault command names rows p (option id) v n x d l k = rw (d, l, unknown_long names n k) refl

-- one dash and more
pub short_fault : (command : Text) (names : Words) (rows : List Row) (p : Option (Text × List Text)) (w : Waiting) (v : Text) (b : ℕ) (bs : Text) (c : ℕ)
    → bytes_eq v (codes "--") ≡ false → long_of v ≡ None → short_of v ≡ Some (b ∷ bs) → slice_get (chars (b ∷ bs)) 0 ≡ Some c
    → turn_fault (shape command names) [] (at rows p w false) v ≡ UnknownArgument ∷ []
unfolding flags_fault
short_fault command names rows p idle v b bs c d l s k = rw (d, l, s, k, no_short names c) refl
short_fault command names rows p positional v b bs c d l s k = rw (d, l, s, k, no_short names c) refl
short_fault command names rows p (option id) v b bs c d l s k = rw (d, l, s, k, no_short names c) refl

-- the value of an option that waits for it
pub value_fault : (command : Text) (names : Words) (rows : List Row) (p : Option (Text × List Text)) (n v : Text)
    → bytes_eq v (codes "--") ≡ false → long_of v ≡ None → short_of v ≡ None
    → turn_fault (shape command names) [] (at rows p (option n) false) v ≡ []
value_fault command names rows p n v d l s = rw (d, l, s) refl

pub value_walk : (names : Words) (rows : List Row) (n v : Text)
    → bytes_eq v (codes "--") ≡ false → long_of v ≡ None → short_of v ≡ None → bytes_eq n (codes "words") ≡ false → is_one_of names n ≡ true
    → walked (rules names) [] (at rows (Some (n, [])) (option n) false) v ≡ at rows (Some (n, v ∷ [])) idle false
unfolding walked
value_walk names rows n v d l s e k = rw (d, l, s, known_id names n e k, bytes_eq-refl n) refl

-- what waits at the end
pub no_value_fault : (names : Words) (rows : List Row) (n : Text) → bytes_eq n (codes "words") ≡ false → is_one_of names n ≡ true → fault_at names (Some (n, [])) rows ≡ InvalidValue ∷ []
no_value_fault names rows n e k = rw (known_id names n e k) refl

pub one_value_fault : (names : Words) (rows : List Row) (n v : Text) → bytes_eq n (codes "words") ≡ false → is_one_of names n ≡ true
    → fault_at names (Some (n, v ∷ [])) rows ≡ or_else (repeat_fault false n rows) []
one_value_fault names rows n v e k = rw (known_id names n e k) refl

pub one_value_rows : (names : Words) (rows : List Row) (n v : Text) → bytes_eq n (codes "words") ≡ false → is_one_of names n ≡ true
    → rows_at names (Some (n, v ∷ [])) rows ≡ used (option_built n) (v ∷ []) rows
one_value_rows names rows n v e k = rw (known_id names n e k) refl
