-- Where separators lead to.
use Rattle.std.proofs.Common.{◌≡◌, ℕ, ◌+◌, ◌-◌, ◌≤◌, List, [], ◌∷◌, ◌++◌, Bool, true, false, length, take, drop, refl, sym, ap, ◌∙◌, suc, zero, subst, arith}
use Rattle.std.specs.Prelude.{◌==◌, not, bytes_eq, codes}
use Rattle.std.specs.List.{list_all, prefix_len, AllByRecursion}
use Rattle.std.proofs.lemmas.List.{take-append-drop}
use Rattle.std.proofs.lemmas.Bool.{eqb-true}
use Rattle.std.proofs.lemmas.List.Sums.{prefix_len-le-length}
use Rattle.std.proofs.lemmas.Slice.Eq.{bytes_eq-Decides}
use Rattle.std.proofs.lemmas.Grind.{common_steps}
use Rattle.argos_base.proofs.Bools.{and_first, and_second, not_false}
use Rattle.argos_tokens.specs.Tokens.{Skips, here, blank, comment, is_blank, begins_blank, IsAtLineEnd}
use Rattle.argos_tokens.specs.Lexing.{SkipsTo, IsBehindLine}
use Rattle.argos_tokens.proofs.Fronts.{Stops, cuts}

-- separators and then separators
pub Skips-then : {n m k : ℕ} {bs mid rest : List ℕ} → Skips n bs m mid → Skips m mid k rest → Skips n bs k rest
Skips-then here s = s
Skips-then (blank h more) s = blank h (Skips-then more s)
Skips-then (comment i a e l z more) s = comment i a e l z (Skips-then more s)

SkipsTo-here : (bs : List ℕ) → SkipsTo bs bs
SkipsTo-here bs = record { leads = λ n m e. let P : ℕ → Type 0 = λ k. Skips n bs k bs in let same : n ≡ m = omega arith in subst P same here }

pub SkipsTo-then : (a b c : List ℕ) → length b ≤ length a → SkipsTo a b → SkipsTo b c → SkipsTo a c
SkipsTo-then a b c l f g = record { leads = λ n m e. Skips-then (f.leads n (n + (length a - length b)) (omega arith)) (g.leads (n + (length a - length b)) m (omega arith)) }

-- the first n bytes are blanks
blanks_lead : (bs : List ℕ) (n : ℕ) → n ≤ length bs → list_all is_blank (take n bs) ≡ true → SkipsTo bs (drop n bs)
blanks_lead bs zero l h = SkipsTo-here bs
blanks_lead [] (suc n) l h = SkipsTo-here []
blanks_lead (b ∷ bs) (suc n) l h =
    let more : SkipsTo bs (drop n bs) = blanks_lead bs n (omega arith) (and_second (is_blank b) _ h) in
    record { leads = λ k m e. blank (and_first (is_blank b) _ h) (more.leads (k + 1) m (omega arith)) }

pub skips_blanks : (bs rest : List ℕ) (n : ℕ) → rest ≡ drop n bs → n ≡ prefix_len is_blank bs → SkipsTo bs rest
skips_blanks bs rest n e h =
    let c = cuts is_blank bs in
    let P : ℕ → Type 0 = λ k. SkipsTo bs (drop k bs) in
    let Q : List ℕ → Type 0 = SkipsTo bs in
    subst Q (sym e) (subst P (sym h) (blanks_lead bs (prefix_len is_blank bs) c.within c.passes))

stops_blank : (bs : List ℕ) → Stops is_blank bs → begins_blank bs ≡ false
stops_blank [] h = refl
stops_blank (b ∷ bs) h = h

pub no_blank_left : (bs rest : List ℕ) (n : ℕ) → rest ≡ drop n bs → n ≡ prefix_len is_blank bs → begins_blank rest ≡ false
no_blank_left bs rest n e h =
    ap begins_blank (e ∙ ap (λ k. drop k bs) h) ∙ stops_blank _ (cuts is_blank bs).stops

in_line : (bs : List ℕ) → list_all (λ b. not (b == 10)) bs ≡ true → AllByRecursion (λ b. (b == 10) ≡ false) bs
in_line [] h = tt
in_line (b ∷ bs) h = (not_false (b == 10) (and_first (not (b == 10)) _ h), in_line bs (and_second (not (b == 10)) _ h))

not_true : (b : Bool) → not b ≡ false → b ≡ true
not_true true h = refl
not_true false h = cc

line_end : (bs : List ℕ) → Stops (λ b. not (b == 10)) bs → IsAtLineEnd bs
line_end [] h = tt
line_end (b ∷ bs) h = eqb-true b 10 (not_true (b == 10) h)

pub behind_line : (bs rest : List ℕ) (n : ℕ) → rest ≡ drop n bs → n ≡ prefix_len (λ b. not (b == 10)) bs → IsBehindLine bs rest
behind_line bs rest n e h =
    let c = cuts (λ b. not (b == 10)) bs in
    let k = prefix_len (λ b. not (b == 10)) bs in
    let same : rest ≡ drop k bs = e ∙ ap (λ i. drop i bs) h in
    let P : List ℕ → Type 0 = IsBehindLine bs in
    subst P (sym same) (record { line = take k bs; whole = sym (take-append-drop k bs); one_line = in_line _ c.passes; at_end = line_end _ c.stops })

-- a comment is skipped
pub skips_comment : (bs inside rest : List ℕ) → bs ≡ 47 ∷ 47 ∷ inside → IsBehindLine inside rest → SkipsTo bs rest
skips_comment bs inside rest e h = record {
  leads = λ n m k.
      let whole : bs ≡ codes "//" ++ h.line ++ rest = e ∙ ap (λ x. 47 ∷ 47 ∷ x) h.whole in
      let size : length bs ≡ 2 + length inside = grind (arith, common_steps) in
      let parts : length inside ≡ length h.line + length rest = ap length h.whole ∙ grind (arith, common_steps) in
      let P : ℕ → Type 0 = λ j. Skips (n + 2 + length h.line) rest j rest in
      let same : n + 2 + length h.line ≡ m = omega arith in
      comment h.line rest whole h.one_line h.at_end (subst P same here);
}

-- the two slashes stand at the front
pub begins_comment : (bs : List ℕ) → bytes_eq (take 2 bs) (codes "//") ≡ true → bs ≡ 47 ∷ 47 ∷ drop 2 bs
begins_comment bs h = sym (take-append-drop 2 bs) ∙ ap (λ x. x ++ drop 2 bs) ((bytes_eq-Decides (take 2 bs) (codes "//")).0 h)

-- one comment more, and blanks behind it
pub skips_more : (bs old inside behind rest : List ℕ) → SkipsTo bs old → length old ≤ length bs → bytes_eq (take 2 old) (codes "//") ≡ true → inside ≡ drop 2 old
    → IsBehindLine inside behind → length behind ≤ length inside → length inside ≤ length old → SkipsTo behind rest → length rest ≤ length behind → SkipsTo bs rest
skips_more bs old inside behind rest s l h e b m i more k =
    SkipsTo-then bs old rest l s (SkipsTo-then old behind rest (omega arith) (skips_comment old inside behind (begins_comment old h ∙ ap (λ x. 47 ∷ 47 ∷ x) (sym e)) b) more)

pub ruleset separators = (common_steps, skips_blanks, no_blank_left, behind_line, skips_more, prefix_len-le-length)
