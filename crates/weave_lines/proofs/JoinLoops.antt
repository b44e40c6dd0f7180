-- Joining lines, one after the other.
use Rattle.std.specs.List.{range_with_len}
use Rattle.std.proofs.Common.{◌≡◌, ℕ, zero, suc, ◌+◌, ◌<◌, List, [], ◌∷◌, ◌++◌, Bool, length, get_or, drop, ap, ◌∙◌, arith}
use Rattle.std.proofs.lemmas.Grind.{common_steps}
use Rattle.std.proofs.lemmas.List.{at_drop_more}
use Rattle.argos_base.specs.SignalSets.{SignalSet}
use Rattle.eqn_core.specs.Equations.{Choice, word, choose}
use Rattle.weave_lines.specs.WovenLines.{plus, output_line, output_lines, next_lines}
use Rattle.weave_lines.proofs.Reading.{length-range}

pub output_lines-drop : (join : ℕ) (outs : SignalSet) (bits : List ℕ) (i : ℕ) (d : Bool) (e : ℕ) → i < length outs → i < length bits → output_lines join (drop i outs) (drop i bits) ≡ output_line join (get_or outs i d) (get_or bits i e) ∷ output_lines join (drop (i + 1) outs) (drop (i + 1) bits)
output_lines-drop join outs bits i d e l m = at_drop_more (λ (x : SignalSet). output_lines join x (drop i bits)) outs i d l ∙ at_drop_more (λ (y : List ℕ). output_lines join (get_or outs i d ∷ drop (i + 1) outs) y) bits i e m

pub next_lines-drop : (join : ℕ) (choices : List Choice) (words : List ℕ) (i : ℕ) (d : Choice) (e : ℕ) → i < length choices → i < length words → next_lines join (drop i choices) (drop i words) ≡ choose (record { when = plus join; choice = get_or choices i d } ∷ []) (word (get_or words i e)) ∷ next_lines join (drop (i + 1) choices) (drop (i + 1) words)
next_lines-drop join choices words i d e l m = at_drop_more (λ (x : List Choice). next_lines join x (drop i words)) choices i d l ∙ at_drop_more (λ (y : List ℕ). next_lines join (get_or choices i d ∷ drop (i + 1) choices) y) words i e m

pub range_more : (a n : ℕ) → range_with_len a (n + 1) ≡ range_with_len a n ++ (a + n) ∷ []
range_more a zero = let e : a ≡ a + 0 = omega arith in ap (λ (k : ℕ). k ∷ []) e
range_more a (suc n) =
    let e : suc n + 1 ≡ suc (n + 1) = omega arith in
    let s : a + 1 + n ≡ a + suc n = omega arith in
    rw e (ap (λ (xs : List ℕ). a ∷ xs) (range_more (a + 1) n ∙ ap (λ (k : ℕ). range_with_len (a + 1) n ++ k ∷ []) s))

pub ruleset join_loops = (common_steps, output_lines-drop, next_lines-drop, range_more, length-range)
