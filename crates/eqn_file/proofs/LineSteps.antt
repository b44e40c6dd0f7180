-- Taking literals up to the end of a line, and the cases of a chain.
use Rattle.std.proofs.Common.{◌≡◌, ℕ, ◌<◌, List, [], ◌∷◌, ◌++◌, Bool, true, false, ◌&&◌, Option, Some, None, IsTrue, length, map, refl, sym, ap, ◌∙◌, append_assoc, arith}
use Rattle.std.specs.Prelude.{codes, bytes_eq}
use Rattle.std.specs.List.{list_all}
use Rattle.std.proofs.lemmas.List.{append-nil, map-append}
use Rattle.std.proofs.lemmas.List.Folds.{list_all-append}
use Rattle.argos_base.specs.Names.{Spelled}
use Rattle.argos_base.proofs.Bools.{and_first}
use Rattle.eqn_core.specs.Equations.{Literal, Choice, choose}
use Rattle.eqn_core.specs.Equations as plain
use Rattle.eqn_core.specs.Ordered.{literal_below, choice_below, case_below, line_below}
use Rattle.eqn_core.specs.Views.{literal_of, choice_of, case_of, line_of}
use Rattle.eqn_core.specs.declared.system.Lit.{Lit}
use Rattle.eqn_core.specs.declared.system.Case.{Case}
use Rattle.eqn_core.specs.declared.system.Pick.{Pick}
use Rattle.eqn_core.specs.declared.system.Line.TheVariants.{Choose}
use Rattle.smallvec.specs.declared.small_vec.SmallVec.{SmallVec}
use Rattle.std.proofs.Common.{Global}
use Rattle.line_format.proofs.Options.{bind, only_if, bind_is, some_is, bytes_same}
use Rattle.eqn_file.specs.inner.Words.{words_left}
use Rattle.eqn_file.specs.inner.WordReading.{Taken, taken, literal, take_literal, literals, choice, take_choice, Chain, last_choice, one_more_case, chain}
use Rattle.eqn_file.specs.inner.Taking.{IsMisspelt, IsTaken, IsWhole}
use Rattle.eqn_file.specs.declared.words.LineWords.{LineWords}
use Rattle.eqn_file.specs.declared.errors.EqError.{EqError}
use Rattle.eqn_file.specs.declared.errors.EqError.TheVariants.{Line, OutOfMemory}

-- what is misspelt here is so in the whole
pub misspelt-in : {A B : Type 0} (at there : ℕ) (o : Option A) (p : Option B) (e : EqError) → there ≡ at → (o ≡ None → p ≡ None) → IsMisspelt there o e → IsMisspelt at p e
misspelt-in at there o p (Line n k) same none h = (h.0 ∙ same, h.1, none h.2)
misspelt-in at there o p OutOfMemory same none h = tt

and_more : (a b c d e : Bool) → a ≡ (b && c) → d ≡ (a && e) → d ≡ (b && (c && e))
and_more a true c d e h k = k ∙ ap (λ z. z && e) h
and_more a false c d e h k = k ∙ ap (λ z. z && e) h

and_true : (a : Bool) → (a && true) ≡ a
and_true true = refl
and_true false = refl

all_push : {A : Type 0} (p : A → Bool) (xs : List A) (a : A) (s m n : Bool) → m ≡ (s && list_all p xs) → n ≡ (m && p a) → n ≡ (s && list_all p (xs ++ a ∷ []))
all_push p xs a s m n h k = and_more m s (list_all p xs) n (p a) h k ∙ ap (λ z. s && z) (sym (list_all-append p xs (a ∷ []) ∙ ap (λ z. list_all p xs && z) (and_true (p a))))

map_push : {X A : Type 0} (f : X → A) (items more : List X) (x : X) (xs : List A) (a : A) → more ≡ items ++ x ∷ [] → map f items ≡ xs → f x ≡ a → map f more ≡ xs ++ a ∷ []
map_push f items more x xs a e h k = ap (map f) e ∙ map-append f items (x ∷ []) ∙ ap (λ z. z ++ f x ∷ []) h ∙ ap (λ z. xs ++ z ∷ []) k

-- literals
abbrev pub prepended : List Literal → Option (List Literal) → Option (List Literal)
prepended xs o = bind o (λ ys. Some (xs ++ ys))

prepended_none : (o : Option (List Literal)) → prepended [] o ≡ o
prepended_none None = refl
prepended_none (Some ys) = refl

prepended_more : (xs : List Literal) (a : Literal) (o : Option (List Literal)) → prepended xs (prepended (a ∷ []) o) ≡ prepended (xs ++ a ∷ []) o
prepended_more xs a None = refl
prepended_more xs a (Some ys) = ap (λ z. Some z) (sym (append_assoc xs (a ∷ []) ys))

literals-taken : (ws : List Spelled) (t : Taken Literal) → take_literal ws ≡ Some t → literals ws ≡ prepended (t.value ∷ []) (literals t.rest)
literals-taken [] t h = cc h
literals-taken (w ∷ ws) t h =
    let p = bind_is (literal w) (λ l. Some (taken l ws)) t h in
    let same : taken p.0 ws ≡ t = some_is (taken p.0 ws) t p.2 in
    ap (λ o. bind o (λ l. bind (literals ws) (λ ls. Some (l ∷ ls)))) p.1 ∙ ap (λ (u : Taken Literal). prepended (u.value ∷ []) (literals u.rest)) same

literals-untaken : (ws : List Spelled) → (ws ≡ [] → ⊥) → take_literal ws ≡ None → literals ws ≡ None
literals-untaken [] some h = absurd (some refl)
literals-untaken (w ∷ ws) some h = no_literal (literal w) h
  where
    no_literal : (o : Option Literal) → ◌≡◌ {A = Option (Taken Literal)} (bind o (λ l. Some (taken l ws))) None → ◌≡◌ {A = Option (List Literal)} (bind o (λ l. bind (literals ws) (λ ls. Some (l ∷ ls)))) None
    no_literal None h = refl
    no_literal (Some l) h = cc h

taken-shorter : (ws : List Spelled) (t : Taken Literal) → take_literal ws ≡ Some t → length t.rest < length ws
taken-shorter [] t h = cc h
taken-shorter (w ∷ ws) t h =
    let p = bind_is (literal w) (λ l. Some (taken l ws)) t h in
    let same : taken p.0 ws ≡ t = some_is (taken p.0 ws) t p.2 in
    let rest : length ws ≡ length t.rest = ap (λ (u : Taken Literal). length u.rest) same in
    omega arith

-- from the start on these literals were taken
pub record LiteralsSoFar (bits : ℕ) (start now : LineWords) (items : List Lit) : Type 0 where
  pub value : List Literal
  pub words : literals (words_left start.left) ≡ prepended value (literals (words_left now.left))
  pub fits : now.fits ≡ (start.fits && list_all (literal_below bits) value)
  pub same : IsTrue now.fits → map literal_of items ≡ value
  pub line : now.at ≡ start.at

pub no_literals : (bits : ℕ) (start : LineWords) (items : List Lit) → items ≡ [] → LiteralsSoFar bits start start items
no_literals bits start items e = record { value = []; words = sym (prepended_none (literals (words_left start.left))); fits = sym (and_true start.fits); same = λ _. ap (map literal_of) e; line = refl }

pub one_literal : (bits : ℕ) (start now next : LineWords) (items more : List Lit) (x : Lit) → LiteralsSoFar bits start now items → IsTaken literal_of (take_literal (words_left now.left)) (literal_below bits) now next x → more ≡ items ++ x ∷ []
    → LiteralsSoFar bits start next more
one_literal bits start now next items more x h t e = record {
  value = h.value ++ t.value ∷ [];
  words = h.words ∙ ap (prepended h.value) (literals-taken (words_left now.left) (taken t.value (words_left next.left)) t.words) ∙ prepended_more h.value t.value (literals (words_left next.left));
  fits = all_push (literal_below bits) h.value t.value start.fits now.fits next.fits h.fits t.fits;
  same = λ y. map_push literal_of items more x h.value t.value e (h.same (and_first now.fits (literal_below bits t.value) (sym t.fits ∙ y))) (t.same y);
  line = t.line ∙ h.line;
}

pub literals_shorter : (now next : LineWords) (bits : ℕ) (x : Lit) → IsTaken literal_of (take_literal (words_left now.left)) (literal_below bits) now next x → length (words_left next.left) < length (words_left now.left)
literals_shorter now next bits x t = taken-shorter (words_left now.left) (taken t.value (words_left next.left)) t.words

pub literals_misspelt : (bits : ℕ) (start now : LineWords) (items : List Lit) (e : EqError) → LiteralsSoFar bits start now items → (words_left now.left ≡ [] → ⊥) → IsMisspelt now.at (take_literal (words_left now.left)) e
    → IsMisspelt start.at (literals (words_left start.left)) e
literals_misspelt bits start now items e h some m =
    misspelt-in start.at now.at (take_literal (words_left now.left)) (literals (words_left start.left)) e h.line (λ none. h.words ∙ ap (prepended h.value) (literals-untaken (words_left now.left) some none)) m

pub literals_whole : (bits : ℕ) (start now : LineWords) (items : List Lit) (v : List Lit) → LiteralsSoFar bits start now items → words_left now.left ≡ [] → v ≡ items
    → IsWhole (map literal_of) (literals (words_left start.left)) (list_all (literal_below bits)) start now v
literals_whole bits start now items v h e f = record {
  value = h.value;
  words = h.words ∙ ap (λ ws. prepended h.value (literals ws)) e ∙ ap (λ z. Some z) (append-nil h.value);
  fits = h.fits;
  same = λ y. ap (map literal_of) f ∙ h.same y;
  line = h.line;
}

-- chains
abbrev pub with_cases : List plain.Case → Option Chain → Option Chain
with_cases cs o = bind o (λ k. Some (record { cases = cs ++ k.cases; other = k.other }))

with_cases_none : (o : Option Chain) → with_cases [] o ≡ o
with_cases_none None = refl
with_cases_none (Some k) = refl

with_cases_more : (cs : List plain.Case) (c : plain.Case) (o : Option Chain) → with_cases cs (with_cases (c ∷ []) o) ≡ with_cases (cs ++ c ∷ []) o
with_cases_more cs c None = refl
with_cases_more cs c (Some k) = ap (λ (z : List plain.Case). let made : Chain = record { cases = z; other = k.other } in Some made) (sym (append_assoc cs (c ∷ []) k.cases))

abbrev a_case : Literal → Choice → plain.Case
a_case l c = record { when = l; choice = c }

-- `when`, a literal and a choice
chain-when : (a : Spelled) (ws : List Spelled) (t : Taken Literal) (u : Taken Choice) → bytes_eq a (codes "when") ≡ true → take_literal ws ≡ Some t → take_choice t.rest ≡ Some u → chain (a ∷ ws) ≡ with_cases (a_case t.value u.value ∷ []) (chain u.rest)
chain-when a [] t u e h k = cc h
chain-when a (b ∷ ws) t u e h k =
    let p = bind_is (literal b) (λ l. Some (taken l ws)) t h in
    let same : taken p.0 ws ≡ t = some_is (taken p.0 ws) t p.2 in
    let rest : take_choice ws ≡ Some u = ap (λ (x : Taken Literal). take_choice x.rest) same ∙ k in
    let is : literal b ≡ Some t.value = p.1 ∙ ap (λ (x : Taken Literal). Some x.value) same in
    with_choice a b ws t.value u e is rest
  where
    with_choice : (a b : Spelled) (ws : List Spelled) (l : Literal) (u : Taken Choice) → bytes_eq a (codes "when") ≡ true → literal b ≡ Some l → take_choice ws ≡ Some u → chain (a ∷ b ∷ ws) ≡ with_cases (a_case l u.value ∷ []) (chain u.rest)
    with_choice a b [] l u e h k = cc k
    with_choice a b (c ∷ []) l u e h k = cc k
    with_choice a b (c ∷ d ∷ more) l u e h k =
        let p = bind_is (choice c d) (λ x. Some (taken x more)) u k in
        let same : taken p.0 more ≡ u = some_is (taken p.0 more) u p.2 in
        ap (λ x. only_if x (bind (literal b) (λ l. bind (choice c d) (λ p. bind (chain more) (λ k. Some (one_more_case l p k)))))) e
        ∙ ap (λ o. bind o (λ l. bind (choice c d) (λ p. bind (chain more) (λ k. Some (one_more_case l p k))))) h
        ∙ ap (λ o. bind o (λ p. bind (chain more) (λ k. Some (one_more_case l p k)))) p.1
        ∙ ap (λ (x : Taken Choice). with_cases (a_case l x.value ∷ []) (chain x.rest)) same

-- `when` and `else` differ
not_else : (a : Spelled) → bytes_eq a (codes "when") ≡ true → bytes_eq a (codes "else") ≡ false
not_else a h = ap (λ z. bytes_eq z (codes "else")) (bytes_same a (codes "when") h)

not_when : (a : Spelled) → bytes_eq a (codes "else") ≡ true → bytes_eq a (codes "when") ≡ false
not_when a h = ap (λ z. bytes_eq z (codes "when")) (bytes_same a (codes "else") h)

only_none : {A : Type 0} (t : Bool) → only_if {A = A} t None ≡ None
only_none true = refl
only_none false = refl

bind_none : {A B : Type 0} (o : Option A) → bind {A = A} {B = B} o (λ _. None) ≡ None
bind_none None = refl
bind_none (Some a) = refl

no_taken : {A : Type 0} (o : Option A) (ws : List Spelled) → ◌≡◌ {A = Option (Taken A)} (bind o (λ a. Some (taken a ws))) None → o ≡ None
no_taken None ws h = refl
no_taken (Some a) ws h = cc h

chain-when-no_literal : (a : Spelled) (ws : List Spelled) → bytes_eq a (codes "when") ≡ true → take_literal ws ≡ None → chain (a ∷ ws) ≡ None
chain-when-no_literal a [] e h = refl
chain-when-no_literal a (b ∷ []) e h = refl
chain-when-no_literal a (b ∷ c ∷ []) e h = ap (λ x. only_if x (bind (choice b c) (λ p. Some (last_choice p)))) (not_else a e)
chain-when-no_literal a (b ∷ c ∷ d ∷ more) e h =
    ap (λ o. only_if (bytes_eq a (codes "when")) (bind o (λ l. bind (choice c d) (λ p. bind (chain more) (λ k. Some (one_more_case l p k)))))) (no_taken (literal b) (c ∷ d ∷ more) h) ∙ only_none (bytes_eq a (codes "when"))

chain-when-no_choice : (a : Spelled) (ws : List Spelled) (t : Taken Literal) → bytes_eq a (codes "when") ≡ true → take_literal ws ≡ Some t → take_choice t.rest ≡ None → chain (a ∷ ws) ≡ None
chain-when-no_choice a [] t e h k = refl
chain-when-no_choice a (b ∷ ws) t e h k =
    let p = bind_is (literal b) (λ l. Some (taken l ws)) t h in
    let same : taken p.0 ws ≡ t = some_is (taken p.0 ws) t p.2 in
    no_choice a b ws e (ap (λ (x : Taken Literal). take_choice x.rest) same ∙ k)
  where
    no_choice : (a b : Spelled) (ws : List Spelled) → bytes_eq a (codes "when") ≡ true → take_choice ws ≡ None → chain (a ∷ b ∷ ws) ≡ None
    no_choice a b [] e k = refl
    no_choice a b (c ∷ []) e k = ap (λ x. only_if x (bind (choice b c) (λ p. Some (last_choice p)))) (not_else a e)
    no_choice a b (c ∷ d ∷ more) e k =
        ap (λ o. only_if (bytes_eq a (codes "when")) (bind (literal b) (λ l. bind o (λ p. bind (chain more) (λ k. Some (one_more_case l p k)))))) (no_taken (choice c d) more k)
        ∙ ap (λ o. only_if (bytes_eq a (codes "when")) o) (bind_none (literal b)) ∙ only_none (bytes_eq a (codes "when"))

-- `else` and a choice
chain-else : (a : Spelled) (ws : List Spelled) (u : Taken Choice) → bytes_eq a (codes "else") ≡ true → take_choice ws ≡ Some u → u.rest ≡ [] → chain (a ∷ ws) ≡ Some (last_choice u.value)
chain-else a [] u e h k = cc h
chain-else a (b ∷ []) u e h k = cc h
chain-else a (b ∷ c ∷ []) u e h k =
    let p = bind_is (choice b c) (λ x. Some (taken x [])) u h in
    let same : taken p.0 [] ≡ u = some_is (taken p.0 []) u p.2 in
    ap (λ x. only_if x (bind (choice b c) (λ p. Some (last_choice p)))) e ∙ ap (λ o. bind o (λ p. Some (last_choice p))) p.1 ∙ ap (λ (x : Taken Choice). Some (last_choice x.value)) same
chain-else a (b ∷ c ∷ d ∷ more) u e h k =
    let p = bind_is (choice b c) (λ x. Some (taken x (d ∷ more))) u h in
    let same : taken p.0 (d ∷ more) ≡ u = some_is (taken p.0 (d ∷ more)) u p.2 in
    let no : d ∷ more ≡ [] = ap (λ (x : Taken Choice). x.rest) same ∙ k in
    cc no

chain-else-more : (a : Spelled) (ws : List Spelled) (u : Taken Choice) → bytes_eq a (codes "else") ≡ true → take_choice ws ≡ Some u → (u.rest ≡ [] → ⊥) → chain (a ∷ ws) ≡ None
chain-else-more a [] u e h k = refl
chain-else-more a (b ∷ []) u e h k = refl
chain-else-more a (b ∷ c ∷ []) u e h k =
    let p = bind_is (choice b c) (λ x. Some (taken x [])) u h in
    let same : taken p.0 [] ≡ u = some_is (taken p.0 []) u p.2 in
    absurd (k (sym (ap (λ (x : Taken Choice). x.rest) same)))
chain-else-more a (b ∷ c ∷ d ∷ more) u e h k = ap (λ x. only_if x (bind (literal b) (λ l. bind (choice c d) (λ p. bind (chain more) (λ k. Some (one_more_case l p k)))))) (not_when a e)

chain-else-no_choice : (a : Spelled) (ws : List Spelled) → bytes_eq a (codes "else") ≡ true → take_choice ws ≡ None → chain (a ∷ ws) ≡ None
chain-else-no_choice a [] e h = refl
chain-else-no_choice a (b ∷ []) e h = refl
chain-else-no_choice a (b ∷ c ∷ []) e h = ap (λ o. only_if (bytes_eq a (codes "else")) (bind o (λ p. Some (last_choice p)))) (no_taken (choice b c) [] h) ∙ only_none (bytes_eq a (codes "else"))
chain-else-no_choice a (b ∷ c ∷ d ∷ more) e h = ap (λ x. only_if x (bind (literal b) (λ l. bind (choice c d) (λ p. bind (chain more) (λ k. Some (one_more_case l p k)))))) (not_when a e)

-- another word
chain-other : (a : Spelled) (ws : List Spelled) → bytes_eq a (codes "when") ≡ false → bytes_eq a (codes "else") ≡ false → chain (a ∷ ws) ≡ None
chain-other a [] e f = refl
chain-other a (b ∷ []) e f = refl
chain-other a (b ∷ c ∷ []) e f = ap (λ x. only_if x (bind (choice b c) (λ p. Some (last_choice p)))) f
chain-other a (b ∷ c ∷ d ∷ more) e f = ap (λ x. only_if x (bind (literal b) (λ l. bind (choice c d) (λ p. bind (chain more) (λ k. Some (one_more_case l p k)))))) e

-- from the start on these cases were taken
pub record CasesSoFar (bits words : ℕ) (start now : LineWords) (items : List Case) : Type 0 where
  pub value : List plain.Case
  pub said : chain (words_left start.left) ≡ with_cases value (chain (words_left now.left))
  pub fits : now.fits ≡ (start.fits && list_all (case_below bits words) value)
  pub same : IsTrue now.fits → map case_of items ≡ value
  pub line : now.at ≡ start.at

pub no_cases : (bits words : ℕ) (start : LineWords) (items : List Case) → items ≡ [] → CasesSoFar bits words start start items
no_cases bits words start items e = record { value = []; said = sym (with_cases_none (chain (words_left start.left))); fits = sym (and_true start.fits); same = λ _. ap (map case_of) e; line = refl }

-- a word was taken
pub record IsWord (old new : LineWords) (word : Spelled) : Type 0 where
  pub words : words_left old.left ≡ word ∷ words_left new.left
  pub fits : new.fits ≡ old.fits
  pub line : new.at ≡ old.at

and_in : (a b c d e f : Bool) → d ≡ (a && b) → e ≡ d → f ≡ (e && c) → f ≡ (a && (b && c))
and_in a b c d e f h k l = and_more d a b f c h (l ∙ ap (λ z. z && c) k)

pub one_case : (bits words : ℕ) (start now worded met next : LineWords) (items more : List Case) (word : Spelled) (l : Lit) (p : Pick) → CasesSoFar bits words start now items → IsWord now worded word → bytes_eq word (codes "when") ≡ true
    → IsTaken literal_of (take_literal (words_left worded.left)) (literal_below bits) worded met l → IsTaken choice_of (take_choice (words_left met.left)) (choice_below words) met next p → (x : Case) → x ≡ record { when = l; pick = p } → more ≡ items ++ x ∷ []
    → CasesSoFar bits words start next more
one_case bits words start now worded met next items more word l p h w e t u x made f =
    let c : plain.Case = a_case t.value u.value in
    let both : next.fits ≡ (now.fits && case_below bits words c) = and_in now.fits true (case_below bits words c) now.fits now.fits next.fits (sym (and_true now.fits)) refl (and_more met.fits worded.fits (literal_below bits t.value) next.fits (choice_below words u.value) t.fits u.fits ∙ ap (λ z. z && case_below bits words c) w.fits) in
    record {
      value = h.value ++ c ∷ [];
      said = h.said ∙ ap (λ ws. with_cases h.value (chain ws)) w.words
          ∙ ap (with_cases h.value) (chain-when word (words_left worded.left) (taken t.value (words_left met.left)) (taken u.value (words_left next.left)) e t.words u.words)
          ∙ with_cases_more h.value c (chain (words_left next.left));
      fits = all_push (case_below bits words) h.value c start.fits now.fits next.fits h.fits both;
      same = λ y.
          let met_fits : IsTrue met.fits = and_first met.fits (choice_below words u.value) (sym u.fits ∙ y) in
          let now_fits : IsTrue now.fits = and_first now.fits (case_below bits words c) (sym both ∙ y) in
          map_push case_of items more x h.value c f (h.same now_fits) (ap case_of made ∙ ap (λ (z : Literal). a_case z (choice_of p)) (t.same met_fits) ∙ ap (a_case t.value) (u.same y));
      line = u.line ∙ t.line ∙ w.line ∙ h.line;
    }

pub cases_misspelt : {A : Type 0} (bits words : ℕ) (start now there : LineWords) (items : List Case) (o : Option A) (e : EqError) → CasesSoFar bits words start now items → there.at ≡ now.at → (o ≡ None → chain (words_left now.left) ≡ None) → IsMisspelt there.at o e
    → IsMisspelt start.at (bind (chain (words_left start.left)) (λ k. Some (choose k.cases k.other))) e
cases_misspelt bits words start now there items o e h at none m =
    misspelt-in start.at there.at o (bind (chain (words_left start.left)) (λ k. Some (choose k.cases k.other))) e (at ∙ h.line) (λ n. ap (λ z. bind z (λ k. Some (choose k.cases k.other))) (h.said ∙ ap (with_cases h.value) (none n))) m

choice-shorter : (ws : List Spelled) (u : Taken Choice) → take_choice ws ≡ Some u → length u.rest < length ws
choice-shorter [] u h = cc h
choice-shorter (w ∷ []) u h = cc h
choice-shorter (w ∷ v ∷ ws) u h =
    let p = bind_is (choice w v) (λ c. Some (taken c ws)) u h in
    let same : taken p.0 ws ≡ u = some_is (taken p.0 ws) u p.2 in
    let rest : length ws ≡ length u.rest = ap (λ (x : Taken Choice). length x.rest) same in
    omega arith

pub case_shorter : (now worded met next : LineWords) (bits words : ℕ) (word : Spelled) (l : Lit) (p : Pick) → IsWord now worded word → IsTaken literal_of (take_literal (words_left worded.left)) (literal_below bits) worded met l
    → IsTaken choice_of (take_choice (words_left met.left)) (choice_below words) met next p → length (words_left next.left) < length (words_left now.left)
case_shorter now worded met next bits words word l p w t u =
    let first : length (words_left now.left) ≡ length (word ∷ words_left worded.left) = ap length w.words in
    omega (arith, literals_shorter worded met bits l t, choice-shorter (words_left met.left) (taken u.value (words_left next.left)) u.words)

pub pick_missing : (now worded met : LineWords) (bits : ℕ) (word : Spelled) (l : Lit) → IsWord now worded word → bytes_eq word (codes "when") ≡ true → IsTaken literal_of (take_literal (words_left worded.left)) (literal_below bits) worded met l
    → take_choice (words_left met.left) ≡ None → chain (words_left now.left) ≡ None
pick_missing now worded met bits word l w e t none = ap chain w.words ∙ chain-when-no_choice word (words_left worded.left) (taken t.value (words_left met.left)) e t.words none

pub literal_missing : (now worded : LineWords) (word : Spelled) → IsWord now worded word → bytes_eq word (codes "when") ≡ true → take_literal (words_left worded.left) ≡ None → chain (words_left now.left) ≡ None
literal_missing now worded word w e none = ap chain w.words ∙ chain-when-no_literal word (words_left worded.left) e none

pub other_missing : (now worded : LineWords) (word : Spelled) → IsWord now worded word → bytes_eq word (codes "else") ≡ true → take_choice (words_left worded.left) ≡ None → chain (words_left now.left) ≡ None
other_missing now worded word w e none = ap chain w.words ∙ chain-else-no_choice word (words_left worded.left) e none

pub other_word : (now worded : LineWords) (word : Spelled) → IsWord now worded word → bytes_eq word (codes "when") ≡ false → bytes_eq word (codes "else") ≡ false → chain (words_left now.left) ≡ None
other_word now worded word w e f = ap chain w.words ∙ chain-other word (words_left worded.left) e f

pub words_behind : (now worded next : LineWords) (words : ℕ) (word : Spelled) (p : Pick) → IsWord now worded word → bytes_eq word (codes "else") ≡ true → IsTaken choice_of (take_choice (words_left worded.left)) (choice_below words) worded next p
    → (words_left next.left ≡ [] → ⊥) → chain (words_left now.left) ≡ None
words_behind now worded next words word p w e u some = ap chain w.words ∙ chain-else-more word (words_left worded.left) (taken u.value (words_left next.left)) e u.words some

pub chain_whole : (bits words : ℕ) (start now worded next : LineWords) (cases : SmallVec Case 4 Global) (word : Spelled) (p : Pick) → CasesSoFar bits words start now cases.items → IsWord now worded word → bytes_eq word (codes "else") ≡ true
    → IsTaken choice_of (take_choice (words_left worded.left)) (choice_below words) worded next p → words_left next.left ≡ []
    → IsWhole line_of (bind (chain (words_left start.left)) (λ k. Some (choose k.cases k.other))) (line_below bits words) start next (Choose cases p)
chain_whole bits words start now worded next cases word p h w e u none =
    let last : chain (words_left now.left) ≡ Some (last_choice u.value) = ap chain w.words ∙ chain-else word (words_left worded.left) (taken u.value (words_left next.left)) e u.words none in
    let both : next.fits ≡ (now.fits && choice_below words u.value) = u.fits ∙ ap (λ z. z && choice_below words u.value) w.fits in
    record {
      value = choose h.value u.value;
      words = ap (λ z. bind z (λ k. Some (choose k.cases k.other))) (h.said ∙ ap (with_cases h.value) last) ∙ ap (λ z. Some (choose z u.value)) (append-nil h.value);
      fits = and_more now.fits start.fits (list_all (case_below bits words) h.value) next.fits (choice_below words u.value) h.fits both;
      same = λ y. ap (λ z. choose z (choice_of p)) (h.same (and_first now.fits (choice_below words u.value) (sym both ∙ y))) ∙ ap (λ z. choose h.value z) (u.same y);
      line = u.line ∙ w.line ∙ h.line;
    }
