-- What operands mean, one after the other.
use Rattle.std.proofs.Common.{◌≡◌, ℕ, ◌+◌, ◌<◌, List, ◌&&◌, ◌||◌, map, length, get_or, drop}
use Rattle.std.proofs.lemmas.Grind.{common_steps}
use Rattle.std.proofs.lemmas.List.{at_drop_more}
use Rattle.argos_core.specs.Layouts.{RegisterShape}
use Rattle.bisim_formula.specs.Formulas.{related_by, all_related, any_related}
use Rattle.bisim_formula.specs.Views.{formula_of, formulas_of}
use Rattle.bisim_formula.specs.declared.cert.Cert.{Cert}

pub all-drop : (ls rs : List RegisterShape) (m n : List ℕ) (cs : List Cert) (i : ℕ) (d : Cert) → i < length cs → all_related ls rs (formulas_of (map formula_of (drop i cs))) m n ≡ (related_by ls rs (formula_of (get_or cs i d)) m n && all_related ls rs (formulas_of (map formula_of (drop (i + 1) cs))) m n)
all-drop ls rs m n = at_drop_more (λ cs. all_related ls rs (formulas_of (map formula_of cs)) m n)

pub any-drop : (ls rs : List RegisterShape) (m n : List ℕ) (cs : List Cert) (i : ℕ) (d : Cert) → i < length cs → any_related ls rs (formulas_of (map formula_of (drop i cs))) m n ≡ (related_by ls rs (formula_of (get_or cs i d)) m n || any_related ls rs (formulas_of (map formula_of (drop (i + 1) cs))) m n)
any-drop ls rs m n = at_drop_more (λ cs. any_related ls rs (formulas_of (map formula_of cs)) m n)

pub ruleset operands = (common_steps, all-drop, any-drop)
