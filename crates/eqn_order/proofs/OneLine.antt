-- A system of one line that reads nothing is orderable.
use Rattle.std.proofs.Common.{◌≡◌, ℕ, zero, suc, List, [], ◌∷◌, ◌++◌, Some, true, slice_get, refl, sym, ◌∙◌, subst, arith}
use Rattle.eqn_core.specs.Chains.{Chain, link, links}
use Rattle.eqn_core.specs.Dependence.{Item, bit_item, word_item, line_reads}
use Rattle.eqn_core.specs.Equations.{Line, all, choose, Equations, bit_count, word_count}
use Rattle.eqn_core.specs.Orderable.{DependsPastLocals, IsOrderable}
use Rattle.eqn_core.specs.Ordered.{line_below}

abbrev one_line : Equations
one_line = record { inputs = 1; initial = []; lines = all [] ∷ []; outputs = 1 ∷ []; locals = 1 ∷ []; next = [] }

-- the only line of a list of one
only : (before : List Line) (line : Line) (after : List Line) → all [] ∷ [] ≡ before ++ line ∷ after → all [] ≡ line
only [] line after e = cc
only (x ∷ []) line after e = cc
only (x ∷ y ∷ before) line after e = cc

reads_none : (y : Item) (line : Line) → all [] ≡ line → line_reads line y ≡ true → ⊥
reads_none y line e r = at y (subst (λ (l : Line). line_reads l y ≡ true) (sym e) r)
  where
    at : (y : Item) → line_reads (all []) y ≡ true → ⊥
    at (bit_item k) h = cc
    at (word_item k) h = cc

no_link : (x y : Item) → DependsPastLocals one_line x y → ⊥
no_link x y d = let f = d.depends.defines in reads_none y d.depends.line (only f.before d.depends.line f.after f.stands) d.depends.reads

no_chain : (x y : Item) → Chain (DependsPastLocals one_line) x y → ⊥
no_chain x y (link a b d) = no_link x y d
no_chain x y (links a b c d rest) = no_link x b d

one_line_is : IsOrderable one_line
one_line_is = record {
  cycles = λ k c. no_chain (bit_item k) (bit_item k) c;
  chooses = λ before cases other after w e r. absurd (reads_none (word_item w) (choose cases other) (only before (choose cases other) after e) r);
  each = λ before line after e. subst (λ (l : Line). line_below (bit_count one_line) (word_count one_line) l ≡ true) (only before line after e) refl;
  next_sized = refl;
  next_exist = refl;
  outputs_exist = refl;
  locals_exist = refl;
  locals_once = λ j k x e f. first j x e ∙ sym (first k x f);
  register_limit = omega arith;
  input_limit = omega arith;
  output_limit = omega arith;
  line_limit = omega arith;
}
  where
    first : (j x : ℕ) → slice_get (1 ∷ []) j ≡ Some x → j ≡ 0
    first zero x e = refl
    first (suc zero) x e = cc
    first (suc (suc j)) x e = cc

-- the same, whatever the parts come from
pub one_line_orderable : (initial : List ℕ) (lines : List Line) (outputs locals next : List ℕ) → initial ≡ [] → lines ≡ all [] ∷ [] → outputs ≡ 1 ∷ [] → locals ≡ 1 ∷ [] → next ≡ [] → IsOrderable (record { inputs = 1; initial = initial; lines = lines; outputs = outputs; locals = locals; next = next })
one_line_orderable initial lines outputs locals next i l o k n =
    subst (λ (xs : List ℕ). IsOrderable (record { inputs = 1; initial = xs; lines = lines; outputs = outputs; locals = locals; next = next })) (sym i)
    (subst (λ (xs : List Line). IsOrderable (record { inputs = 1; initial = []; lines = xs; outputs = outputs; locals = locals; next = next })) (sym l)
    (subst (λ (xs : List ℕ). IsOrderable (record { inputs = 1; initial = []; lines = all [] ∷ []; outputs = xs; locals = locals; next = next })) (sym o)
    (subst (λ (xs : List ℕ). IsOrderable (record { inputs = 1; initial = []; lines = all [] ∷ []; outputs = 1 ∷ []; locals = xs; next = next })) (sym k)
    (subst (λ (xs : List ℕ). IsOrderable (record { inputs = 1; initial = []; lines = all [] ∷ []; outputs = 1 ∷ []; locals = 1 ∷ []; next = xs })) (sym n) one_line_is))))
