-- The arguments of a simple command, as clap builds them, and where it finds them.
use Rattle.std.proofs.Common.{◌≡◌, ℕ, List, [], ◌∷◌, Bool, true, false, ◌||◌, map, Some, None, refl, sym, ap, ◌∙◌, codes}
use Rattle.std.specs.Prelude.{bytes_eq}
use Rattle.std.proofs.lemmas.Slice.Eq.{bytes_eq-Decides}
use Rattle.argos_base.specs.Spelling.{is_one_of}
use Rattle.argos_words.specs.Words.{Words}
use Rattle.clap.specs.Walk.{Rule, Text, arg_by_id, arg_by_long, arg_by_short}
use Rattle.clap.specs.Simple.{Shape, new_rule, new_shape}
use Rattle.clap.specs.declared.builder.action.ArgAction.TheVariants.{Set, Append}
use Rattle.clap.specs.declared.builder.value_parser.ValueParser.TheVariants as vp

abbrev pub plain_built : Rule
plain_built = record (new_rule (codes "words")) {
  index = Some 1;
  action = Some Append;
  range = Some (record { start_inclusive = 1; end_inclusive = 1 });
  parser = Some vp.String;
}

abbrev pub option_built : Text → Rule
option_built name = record (new_rule name) {
  long = Some name;
  action = Some Set;
  range = Some (record { start_inclusive = 1; end_inclusive = 1 });
  parser = Some vp.String;
}

abbrev pub rules : Words → List Rule
rules names = plain_built ∷ map option_built names

abbrev pub shape : Text → Words → Shape
shape word names = record (new_shape word) {
  rules = rules names;
  no_binary_name = true;
  disable_help_flag = true;
  disable_help_subcommand = true;
  is_built = true;
}

-- names are equal or not
pub bytes_eq-refl : (t : Text) → bytes_eq t t ≡ true
bytes_eq-refl t = (bytes_eq-Decides t t).1 refl

pub bytes_eq-sym : (t u : Text) → bytes_eq t u ≡ bytes_eq u t
bytes_eq-sym t u = go (bytes_eq t u) refl (bytes_eq u t) refl
  where
    go : (a : Bool) → bytes_eq t u ≡ a → (b : Bool) → bytes_eq u t ≡ b → bytes_eq t u ≡ bytes_eq u t
    go true e true f = e ∙ sym f
    go true e false f = let same : bytes_eq u t ≡ true = (bytes_eq-Decides u t).1 (sym ((bytes_eq-Decides t u).0 e)) in let bad : true ≡ false = sym same ∙ f in cc
    go false e true f = let same : bytes_eq t u ≡ true = (bytes_eq-Decides t u).1 (sym ((bytes_eq-Decides u t).0 f)) in let bad : true ≡ false = sym same ∙ e in cc
    go false e false f = e ∙ sym f

-- an option is found by its name
pub known_long : (names : Words) (n : Text) → is_one_of names n ≡ true → arg_by_long (rules names) n ≡ Some (option_built n)
known_long [] n h = cc
known_long (m ∷ names) n h = go (bytes_eq m n) refl (known_long names n)
  where
    go : (b : Bool) → bytes_eq m n ≡ b → (is_one_of names n ≡ true → arg_by_long (rules names) n ≡ Some (option_built n)) → arg_by_long (rules (m ∷ names)) n ≡ Some (option_built n)
    go true e k = rw e (ap (λ (x : Text). Some (option_built x)) ((bytes_eq-Decides m n).0 e))
    go false e k = rw e (k (sym (ap (λ b. b || is_one_of names n) (bytes_eq-sym n m ∙ e)) ∙ h))

pub unknown_long : (names : Words) (n : Text) → is_one_of names n ≡ false → arg_by_long (rules names) n ≡ None
unknown_long [] n h = refl
unknown_long (m ∷ names) n h = go (bytes_eq m n) refl (unknown_long names n)
  where
    go : (b : Bool) → bytes_eq m n ≡ b → (is_one_of names n ≡ false → arg_by_long (rules names) n ≡ None) → arg_by_long (rules (m ∷ names)) n ≡ None
    go true e k = let bad : true ≡ false = sym (ap (λ b. b || is_one_of names n) (bytes_eq-sym n m ∙ e)) ∙ h in cc
    go false e k = rw e (k (sym (ap (λ b. b || is_one_of names n) (bytes_eq-sym n m ∙ e)) ∙ h))

-- and by its id
options_id : (names : Words) (n : Text) → is_one_of names n ≡ true → arg_by_id (map option_built names) n ≡ Some (option_built n)
options_id [] n h = cc
options_id (m ∷ names) n h = go (bytes_eq m n) refl (options_id names n)
  where
    go : (b : Bool) → bytes_eq m n ≡ b → (is_one_of names n ≡ true → arg_by_id (map option_built names) n ≡ Some (option_built n)) → arg_by_id (map option_built (m ∷ names)) n ≡ Some (option_built n)
    go true e k = rw e (ap (λ (x : Text). Some (option_built x)) ((bytes_eq-Decides m n).0 e))
    go false e k = rw e (k (sym (ap (λ b. b || is_one_of names n) (bytes_eq-sym n m ∙ e)) ∙ h))

pub known_id : (names : Words) (n : Text) → bytes_eq n (codes "words") ≡ false → is_one_of names n ≡ true → arg_by_id (rules names) n ≡ Some (option_built n)
known_id names n w h = let e : bytes_eq (codes "words") n ≡ false = bytes_eq-sym (codes "words") n ∙ w in rw e (options_id names n h)

pub no_short : (names : Words) (x : ℕ) → arg_by_short (rules names) x ≡ None
no_short [] x = refl
no_short (m ∷ names) x = no_short names x
