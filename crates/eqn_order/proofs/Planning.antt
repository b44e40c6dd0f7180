-- From the searches to a plan.
use Rattle.std.proofs.Common.{◌≡◌, ◌⊎◌, inl, inr, ℕ, zero, suc, ◌<◌, ◌≤◌, List, [], ◌∷◌, ◌++◌, Option, Some, None, Bool, true, false, length, get_or, slice_get, refl, sym, ap, ◌∙◌, subst, arith}
use Rattle.std.specs.Prelude.{◌↔◌, nat_eq, nat_le, filter}
use Rattle.std.specs.List.{list_any}
use Rattle.std.proofs.lemmas.List.{length-map}
use Rattle.std.proofs.lemmas.Bool.Decides.{nat_tests}
use Rattle.argos_base.specs.SignalSets.{lists}
use Rattle.argos_base.proofs.Bools.{true_or_false, or_cases, or_left, or_right}
use Rattle.eqn_core.specs.Chains.{Chain, link, links}
use Rattle.eqn_core.specs.Dependence.{Item, bit_item, word_item, line_reads, Defines, ItemDepends, IsCyclicBit}
use Rattle.eqn_core.specs.Equations.{Line, choose, Equations, registers, bit_count, word_count}
use Rattle.eqn_core.specs.Orderable.{IsOrderable, is_local, DependsPastLocals}
use Rattle.eqn_core.specs.Plans.{AreCyclicBits, IsKnown, input, register, given, earlier_line, IsPlanOf}
use Rattle.eqn_core.proofs.PlanLemmas.{cyclic_all}
use Rattle.eqn_order.specs.inner.Graphs.{row, Stands, IsEdge, Reach, here, along, IsFinishingOrder, AreComponents}
use Rattle.eqn_order.specs.inner.Sources.{origins_of, line_of_bit, all_given, lines_read}
use Rattle.eqn_order.specs.inner.Cyclic.{leads_back, is_on_cycle}
use Rattle.eqn_order.proofs.Places.{Stands-none, Stands-first, Stands-behind, Stands-either, joined, one_more, at_most_or_above}
use Rattle.eqn_order.proofs.Tables.{IsDefined, bit_found, bit_is, no_register, bit_defined, word_defined, same_line, same_lines, same_item, eq_true, eq_at, place_inside}
use Rattle.eqn_order.proofs.Edges.{is_given, bit_under, word_under, G, Comes, edge_comes, comes_edge, graph_rows}

module _ (E : Equations) (ks : List ℕ) where
  -- edges make a chain of items
  pub depends_along : (v w u : ℕ) (l m : Line) (x z : Item) → IsEdge (G E ks) v w → Reach (G E ks) w u → Defines E v l x → Defines E u m z → Chain (ItemDepends E) x z
  depends_along v w u l m x z g (here a) d e =
      let c = edge_comes E ks v w g in
      link x z (record { place = v; line = l; defines = d; reads = subst (λ (i : Item). line_reads l i ≡ true) (same_item E w c.target m c.y z c.target_is e) (subst (λ (n : Line). line_reads n c.y ≡ true) (same_lines E v c.line l c.x x c.source d) c.reads) })
  depends_along v w u l m x z g (along a b t h rest) d e =
      let c = edge_comes E ks v w g in
      links x c.y z (record { place = v; line = l; defines = d; reads = subst (λ (n : Line). line_reads n c.y ≡ true) (same_lines E v c.line l c.x x c.source d) c.reads }) (depends_along w b u c.target m c.y z h rest c.target_is e)

  -- the last edge of a way
  last_edge : (v w u : ℕ) → IsEdge (G E ks) v w → Reach (G E ks) w u → (c : ℕ) × IsEdge (G E ks) c u
  last_edge v w u g (here a) = (v, g)
  last_edge v w u g (along a b t h rest) = last_edge w b u h rest

  module _ (o : IsOrderable E) (all : (k : ℕ) → lists E.locals k ≡ true → IsCyclicBit E k → lists ks k ≡ true) where
    -- what stands on a cycle of the rest is no local
    no_local : (v w : ℕ) (l : Line) (x : Item) → IsEdge (G E ks) v w → Reach (G E ks) w v → Defines E v l x → is_local E x ≡ false
    no_local v w l (word_item k) g r d = refl
    no_local v w l (bit_item k) g r d = elim (true_or_false (lists E.locals k)) [
      | inr n ↦ n
      | inl y ↦ clash y
    ]
      where
        clash : lists E.locals k ≡ true → lists E.locals k ≡ false
        clash y =
            let taken : lists ks k ≡ true = all k y (depends_along v w v l l (bit_item k) (bit_item k) g r d d) in
            let into = last_edge v w v g r in
            let c = edge_comes E ks into.0 v into.1 in
            let free : is_given ks (bit_item k) ≡ false = subst (λ (i : Item). is_given ks i ≡ false) (same_item E v c.target l c.y (bit_item k) c.target_is d) c.free in
            cc

    past : (v w u : ℕ) (l m : Line) (x z : Item) → IsEdge (G E ks) v w → Reach (G E ks) w u → Reach (G E ks) u v → Defines E v l x → Defines E u m z → Chain (DependsPastLocals E) x z
    past v w u l m x z g (here a) back d e =
        let c = edge_comes E ks v w g in
        link x z (record { past = no_local v w l x g back d; depends = record { place = v; line = l; defines = d; reads = subst (λ (i : Item). line_reads l i ≡ true) (same_item E w c.target m c.y z c.target_is e) (subst (λ (n : Line). line_reads n c.y ≡ true) (same_lines E v c.line l c.x x c.source d) c.reads) } })
    past v w u l m x z g (along a b t h rest) back d e =
        let c = edge_comes E ks v w g in
        links x c.y z
        (record { past = no_local v w l x g (joined (G E ks) w u v (along a b t h rest) back) d; depends = record { place = v; line = l; defines = d; reads = subst (λ (n : Line). line_reads n c.y ≡ true) (same_lines E v c.line l c.x x c.source d) c.reads } })
        (past w b u c.target m c.y z h rest (one_more (G E ks) u v w back g) c.target_is e)

    no_bit_cycle : (v w k : ℕ) (l : Line) → Defines E v l (bit_item k) → IsEdge (G E ks) v w → Reach (G E ks) w v → ⊥
    no_bit_cycle v w k l d g r = o.cycles k (past v w v l l (bit_item k) (bit_item k) g r (here v) d d)

    -- a line that defines a word is a choice
    is_choice : (v k : ℕ) (l : Line) → Defines E v l (word_item k) → (j : ℕ) → line_reads l (word_item j) ≡ true → j < registers E
    is_choice v k (Line.all ls) d j r = cc
    is_choice v k (Line.any ls) d j r = cc
    is_choice v k (Line.within w lo hi) d j r = let e = d.is in cc
    is_choice v k (Line.digit w place) d j r = let e = d.is in cc
    is_choice v k (choose cases other) d j r = o.chooses d.before cases other d.after j d.stands r

    -- without the cyclic bits no cycle is left
    pub no_cycle : (v w : ℕ) → IsEdge (G E ks) v w → Reach (G E ks) w v → ⊥
    no_cycle v w g r = at (edge_comes E ks v w g)
      where
        from_word : (k : ℕ) (l target : Line) (y : Item) → Defines E v l (word_item k) → line_reads l y ≡ true → Defines E w target y → ⊥
        from_word k l target (word_item j) d s t = omega (arith, is_choice v k l d j s, no_register E w j target t)
        from_word k l target (bit_item j) d s t = turn r
          where
            turn : Reach (G E ks) w v → ⊥
            turn h = around w v h t g
              where
                around : (a b : ℕ) → Reach (G E ks) a b → Defines E a target (bit_item j) → IsEdge (G E ks) b a → ⊥
                around a b (here q) t' back = no_bit_cycle a a j target t' back (here a)
                around a b (along q p z h rest) t' back = no_bit_cycle a p j target t' h (one_more (G E ks) p b a rest back)

        at : Comes E ks v w → ⊥
        at c = by c.x c.source
          where
            by : (x : Item) → Defines E v c.line x → ⊥
            by (bit_item k) d = no_bit_cycle v w k c.line d g r
            by (word_item k) d = from_word k c.line c.target c.y d c.reads c.target_is

    lists-stands : (xs : List ℕ) (k : ℕ) → Stands xs k → lists xs k ≡ true
    lists-stands [] k h = Stands-none k h
    lists-stands (x ∷ xs) k h = elim (Stands-either xs x k h) [
      | inl e ↦ or_left (nat_eq x k) (lists xs k) (eq_at x k e)
      | inr s ↦ or_right (nat_eq x k) (lists xs k) (lists-stands xs k s)
    ]

    front_of : (earlier rest : List ℕ) (i x : ℕ) → i < length earlier → slice_get (earlier ++ rest) i ≡ Some x → Stands earlier x
    front_of [] rest i x l e = absurd (omega arith)
    front_of (y ∷ earlier) rest zero x l e = record { place = 0; is = e }
    front_of (y ∷ earlier) rest (suc i) x l e = Stands-behind earlier y x (front_of earlier rest i x (omega arith) e)

    get_here : (earlier : List ℕ) (x : ℕ) (rest : List ℕ) → slice_get (earlier ++ x ∷ rest) (length earlier) ≡ Some x
    get_here [] x rest = refl
    get_here (y ∷ earlier) x rest = get_here earlier x rest

    -- what a line leads to stands before it
    before_it : (F earlier later : List ℕ) (v w : ℕ) → IsFinishingOrder (G E ks) F → F ≡ earlier ++ v ∷ later → IsEdge (G E ks) v w → lists earlier w ≡ true
    before_it F earlier later v w f e g =
        let s = f.each w (graph_rows E ks v w g) in
        let at : slice_get F (length earlier) ≡ Some v = ap (λ xs. slice_get xs (length earlier)) e ∙ get_here earlier v later in
        elim (at_most_or_above (length earlier) s.place) [
          | inr l ↦ lists-stands earlier w (front_of earlier (v ∷ later) s.place w l (ap (λ xs. slice_get xs s.place) (sym e) ∙ s.is))
          | inl l ↦ absurd (no_cycle v w g (f.folded (length earlier) (length earlier) s.place v v w (omega arith) l at at s.is g))
        ]

    item_known : (F earlier later : List ℕ) (v : ℕ) (line : Line) (x y : Item) → IsFinishingOrder (G E ks) F → F ≡ earlier ++ v ∷ later → Defines E v line x → line_reads line y ≡ true → IsKnown E earlier ks y
    item_known F earlier later v line x (bit_item k) f e d r = elim (bit_defined E k (bit_under line (bit_count E) (word_count E) k (o.each d.before line d.after d.stands) r)) [
      | inl low ↦ input k low
      | inr u ↦ elim (true_or_false (lists ks k)) [
        | inl y ↦ given k y
        | inr n ↦ earlier_line (bit_item k) u.0 u.1.line u.1.defines (before_it F earlier later v u.0 f e (comes_edge E ks v u.0 line u.1.line x (bit_item k) o d r u.1.defines n))
      ]
    ]
    item_known F earlier later v line x (word_item k) f e d r = elim (word_defined E k (word_under line (bit_count E) (word_count E) k (o.each d.before line d.after d.stands) r)) [
      | inl low ↦ register k low
      | inr u ↦ earlier_line (word_item k) u.0 u.1.line u.1.defines (before_it F earlier later v u.0 f e (comes_edge E ks v u.0 line u.1.line x (word_item k) o d r u.1.defines refl))
    ]

    pub plan : (F : List ℕ) → AreCyclicBits E ks → IsFinishingOrder (G E ks) F → IsPlanOf E F ks
    plan F c f = record {
      sized = f.sized ∙ length-map E.lines (lines_read (all_given (origins_of E) ks));
      each = λ k l. lists-stands F k (f.each k (omega (arith, length-map E.lines (lines_read (all_given (origins_of E) ks)))));
      known = λ earlier v later line x y e d r. item_known F earlier later v line x y f e d r;
      cyclic_bits = c;
    }

-- a chain of items makes a way of edges
module _ (E : Equations) (o : IsOrderable E) where
  record Way (v u : ℕ) : Type 0 where
    next : ℕ
    edge : IsEdge (G E []) v next
    rest : Reach (G E []) next u

  first_line : (y z : Item) → Chain (ItemDepends E) y z → (v : ℕ) × IsDefined E v y
  first_line y z (link a b d) = (d.place, record { line = d.line; defines = d.defines })
  first_line y z (links a b c d rest) = (d.place, record { line = d.line; defines = d.defines })

  none_given : (y : Item) → is_given [] y ≡ false
  none_given (bit_item k) = refl
  none_given (word_item k) = refl

  edge_of : (v w : ℕ) (l m : Line) (x y : Item) → ItemDepends E x y → Defines E v l x → Defines E w m y → IsEdge (G E []) v w
  edge_of v w l m x y d e f = subst (λ z. IsEdge (G E []) z w) (same_line E d.place v d.line l x d.defines e) (comes_edge E [] d.place w d.line m x y o d.defines d.reads f (none_given y))

  way : (v u : ℕ) (l m : Line) (x z : Item) → Chain (ItemDepends E) x z → Defines E v l x → Defines E u m z → Way v u
  way v u l m x z (link a b d) e f = record { next = u; edge = edge_of v u l m x z d e f; rest = here u }
  way v u l m x z (links a y b d rest) e f =
      let p = first_line y z rest in
      let w = way p.0 u p.1.line m y z rest p.1.defines f in
      record { next = p.0; edge = edge_of v p.0 l p.1.line x y d e p.1.defines; rest = along p.0 w.next u w.edge w.rest }

  -- some line of a row passes a test
  any_at : (p : ℕ → Bool) (xs : List ℕ) (w : ℕ) → Stands xs w → p w ≡ true → list_any p xs ≡ true
  any_at p [] w h t = Stands-none w h
  any_at p (x ∷ xs) w h t = elim (Stands-either xs x w h) [
    | inl e ↦ or_left (p x) (list_any p xs) (ap p e ∙ t)
    | inr s ↦ or_right (p x) (list_any p xs) (any_at p xs w s t)
  ]

  record SomeAt (p : ℕ → Bool) (xs : List ℕ) : Type 0 where
    it : ℕ
    stands : Stands xs it
    passes : p it ≡ true

  some_at : (p : ℕ → Bool) (xs : List ℕ) → list_any p xs ≡ true → SomeAt p xs
  some_at p [] h = cc
  some_at p (x ∷ xs) h = elim (or_cases (p x) (list_any p xs) h) [
    | inl y ↦ record { it = x; stands = Stands-first xs x; passes = y }
    | inr y ↦ (let s = some_at p xs y in record { it = s.it; stands = Stands-behind xs x s.it s.stands; passes = s.passes })
  ]

  -- a line leads back to itself exactly where the bit that it defines depends on itself
  pub leads_back-is : (roots : List ℕ) (v k : ℕ) (l : Line) → AreComponents (G E []) roots → Defines E v l (bit_item k) → (leads_back (row (G E []) v) roots v ≡ true) ↔ IsCyclicBit E k
  leads_back-is roots v k l c d = (to, from)
    where
      to : leads_back (row (G E []) v) roots v ≡ true → IsCyclicBit E k
      to h =
          let s = some_at (λ w. nat_eq (get_or roots w 0) (get_or roots v 0)) (row (G E []) v) h in
          let back : Reach (G E []) s.it v = (c v s.it s.stands).0 (eq_true (get_or roots s.it 0) (get_or roots v 0) s.passes) in
          depends_along E [] v s.it v l l (bit_item k) (bit_item k) s.stands back d d

      from : IsCyclicBit E k → leads_back (row (G E []) v) roots v ≡ true
      from h =
          let w = way v v l l (bit_item k) (bit_item k) h d d in
          any_at (λ w. nat_eq (get_or roots w 0) (get_or roots v 0)) (row (G E []) v) w.next w.edge (eq_at (get_or roots w.next 0) (get_or roots v 0) ((c v w.next w.edge).1 w.rest))

  pub are_cyclic : (roots : List ℕ) (cyclic : List ℕ) → AreComponents (G E []) roots → cyclic ≡ filter (λ k. is_on_cycle (G E []) roots (line_of_bit (origins_of E) k)) E.locals → AreCyclicBits E cyclic
  are_cyclic roots cyclic c e = record {
    test = λ k. is_on_cycle (G E []) roots (line_of_bit (origins_of E) k);
    exact = λ k l. exact k (line_of_bit (origins_of E) k) refl;
    is = e;
  }
    where
      exact : (k : ℕ) (x : Option ℕ) → line_of_bit (origins_of E) k ≡ x → (is_on_cycle (G E []) roots x ≡ true) ↔ IsCyclicBit E k
      exact k None e = (λ h. cc, λ h. none h)
        where
          none : IsCyclicBit E k → false ≡ true
          none h =
              let p = first_line (bit_item k) (bit_item k) h in
              let f : line_of_bit (origins_of E) k ≡ Some p.0 = bit_found E p.0 k p.1.line p.1.defines in
              cc
      exact k (Some v) e = let d = bit_is E k v e in leads_back-is roots v k d.line c d.defines

-- a plan of the parts
pub plan_of : (E : Equations) (ks F : List ℕ) → IsOrderable E → AreCyclicBits E ks → IsFinishingOrder (G E ks) F → IsPlanOf E F ks
plan_of E ks F o c f = plan E ks o (λ k l h. cyclic_all E ks c k l h) F c f

-- a line that defines a bit is one of the graph
pub line_inside : (E : Equations) (k v : ℕ) → line_of_bit (origins_of E) k ≡ Some v → v < length E.lines
line_inside E k v e = let d = bit_is E k v e in omega (arith, d.defines.place_is, place_inside d.defines.before d.line d.defines.after E.lines d.defines.stands)
