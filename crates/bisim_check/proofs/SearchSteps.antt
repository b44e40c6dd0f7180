-- The calls of the search, one after another: what their nodes denote over the arenas before them.
use Rattle.std.proofs.Common.{◌≡◌, ℕ, zero, suc, List, [], ◌∷◌, Bool, ◌&&◌, not, Result, Ok, IfOk, map, length, refl, sym, ap, ◌∙◌, subst, arith}
use Rattle.std.specs.Prelude.{Vec, slice_index_or}
use Rattle.std.specs.declared.alloc.Global.{Global}
use Rattle.argos_core.specs.Layouts.{RegisterShape}
use Rattle.bisim_check.specs.inner.Nodes.{AreWords, AreHeld, codes_at, any_differs, AreDrawn}
use Rattle.bisim_check.specs.inner.Searched.{IsDrawn}
use Rattle.bisim_check.specs.declared.diagrams.ProgramDiagrams.{ProgramDiagrams}
use Rattle.bisim_formula.specs.Formulas.{Formula, related_by}
use Rattle.dd_core.specs.declared.nodes.NodeId.{NodeId}
use Rattle.dd_core.specs.declared.errors.DdError.{DdError}
use Rattle.dd_core.specs.Arenas.{ArenaView, Holds, function_of, Keeps, Makes}
use Rattle.dd_core.specs.Functions.{Function, both, opposite}
use Rattle.dd_core.proofs.Composing.{Keeps-trans}
use Rattle.dd_core.proofs.Walks.{held_constant}
use Rattle.eqn_core.specs.Equations.{Equations}
use Rattle.eqn_dd.specs.declared.places.Places.{Places}
use Rattle.eqn_dd.specs.Denoting.{Denotes, values_at, code_at}
use Rattle.eqn_dd.specs.Placed.{memory_at}
use Rattle.eqn_dd.proofs.Denotations.{made_equal, word-kept, values-kept}
use Rattle.eqn_dd.proofs.StructureSteps.{all_words_later}
use Rattle.eqn_dd.proofs.WordSteps.{held_later}

-- what words and outputs are stays
pub codes_kept : (a b : ArenaView) (words : List (Vec NodeId Global)) (x : List Bool) → Keeps a b → AreWords a words → length x ≡ a.variables → codes_at b words x ≡ codes_at a words x
codes_kept a b [] x keeps all sized = refl
codes_kept a b (w ∷ words) x keeps all sized =
    ap (λ (n : ℕ). n ∷ codes_at b words x) (word-kept a b w.items x keeps (all 0 w.items (omega arith)) sized)
    ∙ ap (λ (l : List ℕ). code_at a w.items x ∷ l) (codes_kept a b words x keeps (λ k d below. all (suc k) d (omega (arith, below))) sized)

pub words_later : {a b : ArenaView} (words : List (Vec NodeId Global)) → Keeps a b → AreWords a words → AreWords b words
words_later words keeps all = all_words_later (map (λ w. w.items) words) keeps all

-- and so does what a program's diagrams are
pub drawn_later : {a b : ArenaView} {E : Equations} {layout : List RegisterShape} {p : Places} {d : ProgramDiagrams} → Keeps a b → AreDrawn a E layout p d → AreDrawn b E layout p d
drawn_later {a} {b} {E} {layout} {p} {d} keeps is = record {
  register_words = words_later d.registers.items keeps is.register_words;
  registers_are = λ x sized. let here = sized ∙ keeps.variables in codes_kept a b d.registers.items x keeps is.register_words here ∙ is.registers_are x here;
  outputs_held = held_later a b d.outputs.items keeps is.outputs_held;
  outputs_sized = is.outputs_sized;
  next_words = words_later d.next.items keeps is.next_words;
  next_sized = is.next_sized;
  react = λ x o m' sized reacts.
      let here = sized ∙ keeps.variables in
      let r = is.react x o m' here reacts in
      (values-kept a b d.outputs.items x keeps is.outputs_held here ∙ r.0, codes_kept a b d.next.items x keeps is.next_words here ∙ r.1);
  structural = record {
    held = keeps.held d.structural.0 is.structural.held;
    exact = λ x sized.
        let here = sized ∙ keeps.variables in
        let same = keeps.denotes d.structural.0 is.structural.held x here in
        let exact = is.structural.exact x here in
        (λ t. exact.0 (sym same ∙ t), λ fits. same ∙ exact.1 fits);
  };
}

-- a formula's node, where its words are given by other lists
pub denotes_by : (a : ArenaView) (F : Formula) {ls rs ks ts : List RegisterShape} {b : ArenaView} {f : ℕ} {lefts rights ms ns : List (Vec NodeId Global)} → ks ≡ ls → ts ≡ rs → ms ≡ lefts → ns ≡ rights
    → Denotes b f (λ x. related_by ks ts F (codes_at a ms x) (codes_at a ns x)) → Denotes b f (λ x. related_by ls rs F (codes_at a lefts x) (codes_at a rights x))
denotes_by a F {ls} {rs} {ks} {ts} {b} {f} {lefts} {rights} {ms} {ns} sl sr el er is =
    subst (λ (ws : List (Vec NodeId Global)). Denotes b f (λ x. related_by ls rs F (codes_at a lefts x) (codes_at a ws x))) er
    (subst (λ (ws : List (Vec NodeId Global)). Denotes b f (λ x. related_by ls rs F (codes_at a ws x) (codes_at a ns x))) el
    (subst (λ (us : List RegisterShape). Denotes b f (λ x. related_by ls us F (codes_at a ms x) (codes_at a ns x))) sr
    (subst (λ (us : List RegisterShape). Denotes b f (λ x. related_by us ts F (codes_at a ms x) (codes_at a ns x))) sl is)))

-- a program's diagrams, where its equations and its layout are given so
pub drawn_as : {arena : ArenaView} {E G : Equations} {layout given : List RegisterShape} {p : Places} {d : ProgramDiagrams} → G ≡ E → given ≡ layout → AreDrawn arena G given p d → AreDrawn arena E layout p d
drawn_as {arena} {E} {G} {layout} {given} {p} {d} e l is =
    subst (λ (shapes : List RegisterShape). AreDrawn arena E shapes p d) l (subst (λ (H : Equations). AreDrawn arena H given p d) e is)

-- and that of outputs
pub differ_by : (a : ArenaView) {b : ArenaView} {f : ℕ} {lefts rights ms ns : List NodeId} → ms ≡ lefts → ns ≡ rights
    → Denotes b f (λ x. any_differs (values_at a ms x) (values_at a ns x)) → Denotes b f (λ x. any_differs (values_at a lefts x) (values_at a rights x))
differ_by a {b} {f} {lefts} {rights} {ms} {ns} el er is =
    subst (λ (ws : List NodeId). Denotes b f (λ x. any_differs (values_at a lefts x) (values_at a ws x))) er
    (subst (λ (ws : List NodeId). Denotes b f (λ x. any_differs (values_at a ws x) (values_at a ns x))) el is)

-- the related structural memories that lead to unrelated ones
pub left_behind : {m n : ℕ} {a b c d : ArenaView} {kept lost : NodeId} {K : Function} {result : Result NodeId DdError} (pairs : ℕ) → Holds a pairs → Keeps a b → Denotes b kept.0 K
    → Makes m b c (opposite (function_of b kept.0)) (Ok lost) → Makes n c d (both (function_of c pairs) (function_of c lost.0)) result
    → IfOk result (λ f. Denotes d f.0 (λ x. function_of a pairs x && not (K x)))
left_behind {m} {n} {a} {b} {c} {d} {kept} {lost} {K} {result} pairs held keeps denotes first second = made_equal second (λ x sized.
    let sized_b : length x ≡ b.variables = sized ∙ first.keeps.variables in
    let sized_a : length x ≡ a.variables = sized_b ∙ keeps.variables in
    ap (λ (t : Bool). t && function_of c lost.0 x) (first.keeps.denotes pairs (keeps.held pairs held) x sized_b ∙ keeps.denotes pairs held x sized_a)
    ∙ ap (λ (t : Bool). function_of a pairs x && t) (first.node.denotes x sized)
    ∙ ap (λ (t : Bool). function_of a pairs x && not t) (denotes.equal x sized_b))

-- the conjunction of a node from before with one just made
pub joined_with : {n : ℕ} {a b c : ArenaView} {last : NodeId} {K : Function} {result : Result NodeId DdError} (pairs : ℕ) → Holds a pairs → Keeps a b → Denotes b last.0 K
    → Makes n b c (both (function_of b pairs) (function_of b last.0)) result → IfOk result (λ f. Denotes c f.0 (λ x. function_of a pairs x && K x))
joined_with {n} {a} {b} {c} {last} {K} {result} pairs held keeps denotes second = made_equal second (λ x sized.
    let sized_a : length x ≡ a.variables = sized ∙ keeps.variables in
    ap (λ (t : Bool). t && function_of b last.0 x) (keeps.denotes pairs held x sized_a)
    ∙ ap (λ (t : Bool). function_of a pairs x && t) (denotes.equal x sized))

-- the nodes taken by name are nodes: those of the list, or false
pub taken_held : (arena : ArenaView) {A : Type 0} (names : List A) (place : A → ℕ) (nodes : List NodeId) → AreHeld arena nodes → AreHeld arena (map (λ name. slice_index_or nodes (place name) (record { 0 = 0 })) names)
taken_held arena [] place nodes held k d below = absurd (omega (arith, below))
taken_held arena (name ∷ names) place nodes held zero d below = one arena (place name) nodes held
  where
    one : (arena : ArenaView) (k : ℕ) (nodes : List NodeId) → AreHeld arena nodes → Holds arena (slice_index_or nodes k (record { 0 = 0 })).0
    one arena k [] held = held_constant arena.nodes 0 (omega arith)
    one arena zero (f ∷ nodes) held = held 0 f (omega arith)
    one arena (suc k) (f ∷ nodes) held = one arena k nodes (λ j e low. held (suc j) e (omega (arith, low)))
taken_held arena (name ∷ names) place nodes held (suc k) d below = taken_held arena names place nodes held k d (omega (arith, below))

-- the related structural memories, where both programs are drawn
pub drawn_together : {m n : ℕ} {F : Formula} {ls rs : List RegisterShape} {p q : Places} {E G : Equations} {a b c e : ArenaView} {l r : ProgramDiagrams} {related structural pairs : NodeId}
    → AreDrawn a E ls p l → AreDrawn a G rs q r → Keeps a b → Denotes b related.0 (λ x. related_by ls rs F (codes_at a l.registers.items x) (codes_at a r.registers.items x))
    → Makes m b c (both (function_of b l.structural.0) (function_of b r.structural.0)) (Ok structural) → Makes n c e (both (function_of c related.0) (function_of c structural.0)) (Ok pairs)
    → IsDrawn F ls rs p q E G e (record { left = l; right = r; pairs = pairs })
drawn_together {m} {n} {F} {ls} {rs} {p} {q} {E} {G} {a} {b} {c} {e} {l} {r} {related} {structural} {pairs} left right keeps denotes first second =
    let to_c = Keeps-trans a b c keeps first.keeps in
    let to_e = Keeps-trans a c e to_c second.keeps in
    record {
      left = drawn_later to_e left;
      right = drawn_later to_e right;
      pairs = made_equal second (λ x sized.
          let sized_b : length x ≡ b.variables = sized ∙ first.keeps.variables in
          let sized_a : length x ≡ a.variables = sized_b ∙ keeps.variables in
          let in_e : (f : NodeId) → Holds a f.0 → function_of b f.0 x ≡ function_of e f.0 x = λ f held. keeps.denotes f.0 held x sized_a ∙ sym (to_e.denotes f.0 held x sized_a) in
          ap (λ (t : Bool). t && function_of c structural.0 x)
          (first.keeps.denotes related.0 denotes.held x sized_b ∙ denotes.equal x sized_b
          ∙ ap (λ (k : List ℕ). related_by ls rs F k (codes_at a r.registers.items x)) (left.registers_are x sized_a)
          ∙ ap (related_by ls rs F (memory_at p x)) (right.registers_are x sized_a))
          ∙ ap (λ (t : Bool). related_by ls rs F (memory_at p x) (memory_at q x) && t)
          (first.node.denotes x sized
          ∙ ap (λ (t : Bool). t && function_of b r.structural.0 x) (in_e l.structural left.structural.held)
          ∙ ap (λ (t : Bool). function_of e l.structural.0 x && t) (in_e r.structural right.structural.held)));
    }
