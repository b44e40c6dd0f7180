-- The words are the command that clap's matches are.
use Rattle.std.proofs.Common.{◌≡◌, ℕ, ◌≤◌, List, [], ◌∷◌, ◌||◌, ◌==◌, Bool, true, false, cond, length, Result, Ok, Err, refl, sym, ap, subst, ◌∙◌, codes, arith}
use Rattle.std.specs.Prelude.{IsTrue, bytes_eq}
use Rattle.std.specs.List.{AllByRecursion}
use Rattle.std.specs.Result.{IsErrAnd}
use Rattle.std.proofs.lemmas.Slice.Eq.{bytes_eq-Decides}
use Rattle.std.proofs.lemmas.Bool.Decides.{nat_tests}
use Rattle.std.specs.Char.{is_ascii_digit}
use Rattle.argos_base.proofs.Bools.{and_first}
use Rattle.argos_base.specs.Spelling.{is_one_of, is_digits}
use Rattle.clap.specs.declared.parser.matches.ArgMatches.{ArgMatches}
use Rattle.argos_words.specs.declared.command.Command as code_command
use Rattle.argos_words.specs.declared.command.WordsError.{WordsError}
use Rattle.argos_words.specs.Words.{Words, Given, Target, Equations, CText, Command, check, compile, weave, simulate, equiv, sample, Splits, IsUsage, HasParts, IsBudget, IsOneTarget, AreAllowed, values_of, begins_with_dash, command_word}
use Rattle.argos_words.specs.Views.{command_of}
use Rattle.argos_words.specs.Simple.{AreUndashed, IsOnceEach}
use Rattle.argos_words.specs.inner.Reading.{FitsMatches, HasCommand, IsFound, IsRead, NoneFits, OnUsage, plains_of, value_of, options_of}
use Rattle.argos_words.proofs.Failing.{on_usage}
use Rattle.argos_words.proofs.Rules.{bytes_eq-refl}

-- no value of the text begins with a dash
abbrev UndashedWords : Words → Type 0
UndashedWords = AllByRecursion (λ v. begins_with_dash v ≡ false)

digit_undashed : (b : ℕ) → is_ascii_digit b ≡ true → (b == 45) ≡ false
digit_undashed b h = grind (arith, nat_tests)

digits_undashed : (v : List ℕ) → IsTrue (is_digits v) → begins_with_dash v ≡ false
digits_undashed [] h = refl
digits_undashed (b ∷ bs) h = digit_undashed b (and_first (is_ascii_digit b) _ h)

budget_undashed : (vs : Words) (n : ℕ) → IsBudget vs n → UndashedWords vs
budget_undashed [] n h = tt
budget_undashed (v ∷ []) n h = (digits_undashed v h.digits, tt)
budget_undashed (v ∷ w ∷ vs) n h = absurd h

target_undashed : (vs : Words) (t : Target) → IsOneTarget vs t → UndashedWords vs
target_undashed [] t h = tt
target_undashed (v ∷ []) Equations h = (ap begins_with_dash h, tt)
target_undashed (v ∷ []) CText h = (ap begins_with_dash h, tt)
target_undashed (v ∷ w ∷ vs) t h = absurd h

-- and there is one at most
budget_once : (vs : Words) (n : ℕ) → IsBudget vs n → length vs ≤ 1
budget_once [] n h = omega arith
budget_once (v ∷ []) n h = omega arith
budget_once (v ∷ w ∷ vs) n h = absurd h

target_once : (vs : Words) (t : Target) → IsOneTarget vs t → length vs ≤ 1
target_once [] t h = omega arith
target_once (v ∷ []) t h = omega arith
target_once (v ∷ w ∷ vs) t h = absurd h

-- options whose values under each of their names don't begin with a dash
later : (n : List ℕ) (g : Given) (gs : List Given) → UndashedWords (values_of n (g ∷ gs)) → UndashedWords (values_of n gs)
later n g gs h = go (bytes_eq g.name n) h
  where
    go : (b : Bool) → UndashedWords (cond b (g.value ∷ values_of n gs) (values_of n gs)) → UndashedWords (values_of n gs)
    go true h = h.1
    go false h = h

undashed : (names : Words) (gs : List Given) → AreAllowed names gs → ((n : List ℕ) → is_one_of names n ≡ true → UndashedWords (values_of n gs)) → AreUndashed gs
undashed names [] allowed h = tt
undashed names (g ∷ gs) allowed h =
    let first : UndashedWords (cond true (g.value ∷ values_of g.name gs) (values_of g.name gs)) =
    subst (λ b. UndashedWords (cond b (g.value ∷ values_of g.name gs) (values_of g.name gs))) (bytes_eq-refl g.name) (h g.name allowed.0) in
    (first.0, undashed names gs allowed.1 (λ n k. later n g gs (h n k)))

-- the names are these two, or this one, or none
abbrev both : Words
both = codes "to" ∷ codes "nodes" ∷ []

abbrev one : Words
one = codes "nodes" ∷ []

of_one : (P : List ℕ → Type 0) → P (codes "nodes") → (n : List ℕ) → is_one_of one n ≡ true → P n
of_one P p n h = go (bytes_eq n (codes "nodes")) refl h
  where
    go : (b : Bool) → bytes_eq n (codes "nodes") ≡ b → (b || false) ≡ true → P n
    go true e k = subst P (sym ((bytes_eq-Decides n (codes "nodes")).0 e)) p
    go false e k = cc

of_both : (P : List ℕ → Type 0) → P (codes "to") → P (codes "nodes") → (n : List ℕ) → is_one_of both n ≡ true → P n
of_both P p q n h = go (bytes_eq n (codes "to")) refl h
  where
    go : (b : Bool) → bytes_eq n (codes "to") ≡ b → (b || is_one_of one n) ≡ true → P n
    go true e k = subst P (sym ((bytes_eq-Decides n (codes "to")).0 e)) p
    go false e k = of_one P q n k

of_none : (P : List ℕ → Type 0) (n : List ℕ) → is_one_of [] n ≡ true → P n
of_none P n h = cc

no_option : (gs : List Given) → AreAllowed [] gs → gs ≡ []
no_option [] h = refl
no_option (g ∷ gs) h = let bad : false ≡ true = h.0 in cc

-- the parts of a command are options of its word, each once
allowed_parts : (c : Command) (ps : Words) (gs : List Given) → HasParts c ps gs → AreAllowed (options_of (command_word c)) gs
allowed_parts (check f n) ps gs h = h.1.0
allowed_parts (compile f t n) ps gs h = h.1.0
allowed_parts (weave f a t n) ps gs h = h.3.0
allowed_parts (simulate f a n) ps gs h = h.2.0
allowed_parts (equiv l r c n) ps gs h = h.1.0
allowed_parts (sample n) ps gs h = subst (AreAllowed []) (sym h.3) tt

once_parts : (c : Command) (ps : Words) (gs : List Given) → HasParts c ps gs → IsOnceEach (options_of (command_word c)) gs
once_parts (check f n) ps gs h = of_one (λ m. length (values_of m gs) ≤ 1) (budget_once _ n h.1.1)
once_parts (compile f t n) ps gs h = of_both (λ m. length (values_of m gs) ≤ 1) (target_once _ t h.1.1) (budget_once _ n h.1.2)
once_parts (weave f a t n) ps gs h = of_both (λ m. length (values_of m gs) ≤ 1) (target_once _ t h.3.1) (budget_once _ n h.3.2)
once_parts (simulate f a n) ps gs h = of_one (λ m. length (values_of m gs) ≤ 1) (budget_once _ n h.2.1)
once_parts (equiv l r c n) ps gs h = of_one (λ m. length (values_of m gs) ≤ 1) (budget_once _ n h.1.1)
once_parts (sample n) ps gs h = of_none (λ m. length (values_of m gs) ≤ 1)

-- what the matches are is a command of these words
fits_parts : (c : Command) (words : Words) (m : ArgMatches) → (f : IsFound (options_of (command_word c)) words m) → FitsMatches c m → HasParts c (plains_of m) f.options × AreUndashed f.options
fits_parts (check f n) words m found h =
    let nodes = subst (λ vs. IsBudget vs n) (sym (found.values (codes "nodes") refl)) h.1 in
    ((h.0, (found.allowed, nodes)), undashed one found.options found.allowed (of_one (λ k. UndashedWords (values_of k found.options)) (budget_undashed _ n nodes)))
fits_parts (compile f t n) words m found h =
    let nodes = subst (λ vs. IsBudget vs n) (sym (found.values (codes "nodes") refl)) h.2 in
    let to = subst (λ vs. IsOneTarget vs t) (sym (found.values (codes "to") refl)) h.1 in
    ((h.0, (found.allowed, to, nodes)), undashed both found.options found.allowed (of_both (λ k. UndashedWords (values_of k found.options)) (target_undashed _ t to) (budget_undashed _ n nodes)))
fits_parts (weave f a t n) words m found h =
    let nodes = subst (λ vs. IsBudget vs n) (sym (found.values (codes "nodes") refl)) h.4 in
    let to = subst (λ vs. IsOneTarget vs t) (sym (found.values (codes "to") refl)) h.3 in
    ((h.0, h.1, h.2, (found.allowed, to, nodes)), undashed both found.options found.allowed (of_both (λ k. UndashedWords (values_of k found.options)) (target_undashed _ t to) (budget_undashed _ n nodes)))
fits_parts (simulate f a n) words m found h =
    let nodes = subst (λ vs. IsBudget vs n) (sym (found.values (codes "nodes") refl)) h.2 in
    ((h.0, h.1, (found.allowed, nodes)), undashed one found.options found.allowed (of_one (λ k. UndashedWords (values_of k found.options)) (budget_undashed _ n nodes)))
fits_parts (equiv l r c n) words m found h =
    let nodes = subst (λ vs. IsBudget vs n) (sym (found.values (codes "nodes") refl)) h.1 in
    ((h.0, (found.allowed, nodes)), undashed one found.options found.allowed (of_one (λ k. UndashedWords (values_of k found.options)) (budget_undashed _ n nodes)))
fits_parts (sample n) words m found h =
    let none = no_option found.options found.allowed in
    ((h.0, h.1, h.2, none), subst AreUndashed (sym none) tt)

-- and the other way round
parts_fit : (c : Command) (words : Words) (m : ArgMatches) (ps : Words) (gs : List Given) → IsFound (options_of (command_word c)) words m → Splits words ps gs → HasParts c ps gs → FitsMatches c m
parts_fit c words m ps gs found s h = go c (found.only ps gs s (allowed_parts c ps gs h) (once_parts c ps gs h)) h
  where
    go : (c : Command) → (ps ≡ plains_of m) × ((n : List ℕ) → is_one_of (options_of (command_word c)) n ≡ true → values_of n gs ≡ value_of n m) → HasParts c ps gs → FitsMatches c m
    go (check f n) e h = (sym e.0 ∙ h.0, subst (λ vs. IsBudget vs n) (e.1 (codes "nodes") refl) h.1.1)
    go (compile f t n) e h = (sym e.0 ∙ h.0, subst (λ vs. IsOneTarget vs t) (e.1 (codes "to") refl) h.1.1, subst (λ vs. IsBudget vs n) (e.1 (codes "nodes") refl) h.1.2)
    go (weave f a t n) e h = (sym e.0 ∙ h.0, h.1, h.2, subst (λ vs. IsOneTarget vs t) (e.1 (codes "to") refl) h.3.1, subst (λ vs. IsBudget vs n) (e.1 (codes "nodes") refl) h.3.2)
    go (simulate f a n) e h = (sym e.0 ∙ h.0, h.1, subst (λ vs. IsBudget vs n) (e.1 (codes "nodes") refl) h.2.1)
    go (equiv l r c n) e h = (sym e.0 ∙ h.0, subst (λ vs. IsBudget vs n) (e.1 (codes "nodes") refl) h.1.1)
    go (sample n) e h = (h.0, sym e.0 ∙ h.1, h.2)

-- so the words are the command that was made of the matches
pub is_read : (word : List ℕ) (words after : Words) (m : ArgMatches) (r : Result code_command.Command WordsError) → words ≡ word ∷ after → IsFound (options_of word) after m → HasCommand word m r → IsRead words r
is_read word words after m (Ok c) h found has =
    let here : IsFound (options_of (command_word (command_of c))) after m = subst (λ w. IsFound (options_of w) after m) (sym has.0) found in
    let parts = fits_parts (command_of c) after m here has.1 in
    record {
      after = after;
      plains = plains_of m;
      options = here.options;
      head = h ∙ ap (λ w. w ∷ after) (sym has.0);
      split = here.split parts.1;
      parts = parts.0;
    }
is_read word words after m (Err e) h found none = on_usage e (λ none c k.
    let front : command_word c ≡ word = cc (h, k.head) in
    let rest : k.after ≡ after = cc (h, k.head) in
    let here : IsFound (options_of (command_word c)) after m = subst (λ w. IsFound (options_of w) after m) (sym front) found in
    none c front (parts_fit c after m k.plains k.options here (subst (λ ws. Splits ws k.plains k.options) rest k.split) k.parts)) none

-- and none where clap refuses them
none_read : (word : List ℕ) (words after : Words) → words ≡ word ∷ after → NoneFits (options_of word) after → IsUsage words
none_read word words after h none c k =
    let front : command_word c ≡ word = cc (h, k.head) in
    let rest : k.after ≡ after = cc (h, k.head) in
    let here : NoneFits (options_of (command_word c)) after = subst (λ w. NoneFits (options_of w) after) (sym front) none in
    here k.plains k.options (subst (λ ws. Splits ws k.plains k.options) rest k.split) (allowed_parts c k.plains k.options k.parts) (once_parts c k.plains k.options k.parts)

pub refused_read : (word : List ℕ) (words after : Words) (e : WordsError) (r : Result code_command.Command WordsError) → words ≡ word ∷ after → IsErrAnd r (λ d. d ≡ e) → OnUsage e (NoneFits (options_of word) after) → IsRead words r
refused_read word words after e (Ok c) h k none = absurd k
refused_read word words after e (Err d) h k none = subst (λ x. OnUsage x (IsUsage words)) (sym k) (on_usage e (none_read word words after h) none)
