-- The steps of a depth-first search.
use Rattle.std.proofs.Common.{◌≡◌, inl, inr, ℕ, zero, suc, ◌+◌, ◌<◌, ◌≤◌, ◌≢◌, List, [], ◌∷◌, ◌++◌, Some, None, Bool, true, false, length, get_or, set, slice_get, replicate, refl, sym, ap, ◌∙◌, subst, arith, length-append, length-set}
use Rattle.std.proofs.lemmas.List.{get_or-set_same, get_or-set_other, length-replicate}
use Rattle.argos_base.specs.SignalSets.{has}
use Rattle.argos_base.proofs.SetLemmas.{has-below}
use Rattle.eqn_order.specs.inner.Graphs.{row, Stands, IsEdge, Reach, here, AreRows, IsFinishingOrder}
use Rattle.eqn_order.specs.inner.Searches.{unseen, unfollowed, work, Searches}
use Rattle.eqn_order.proofs.Places.{within, get-keep, get-last, get-cases, Stands-keep, Stands-last, Stands-cases, Stands-none, one_more, same_or_not, has-set_same, has-set_keep, has-set_cases, unseen-set, all_seen, unfollowed-set, read_bool, read_number}

-- at one more edge followed
more_followed : (followed : List ℕ) (v x : ℕ) → v < length followed → get_or followed x 0 ≤ get_or (set followed v (get_or followed v 0 + 1)) x 0
more_followed followed v x l = elim (same_or_not x v) [
  | inl e ↦ subst (λ k. get_or followed k 0 ≤ get_or (set followed v (get_or followed v 0 + 1)) k 0) (sym e) (omega (arith, get_or-set_same followed v (get_or followed v 0 + 1) 0 l))
  | inr n ↦ omega (arith, get_or-set_other followed v x (get_or followed v 0 + 1) 0 n)
]

pub none_seen : (n x : ℕ) → has (replicate n false) x ≡ true → ⊥
none_seen zero x h = cc
none_seen (suc n) zero h = cc
none_seen (suc n) (suc x) h = none_seen n x h

none_followed : (n x : ℕ) → ◌≡◌ {A = ℕ} (get_or (replicate n 0) x 0) 0
none_followed zero x = refl
none_followed (suc n) zero = refl
none_followed (suc n) (suc x) = none_followed n x

unseen-none : (n : ℕ) → unseen (replicate n false) ≡ n
unseen-none zero = refl
unseen-none (suc n) = ap suc (unseen-none n)

module _ (R : List (List ℕ)) where
  -- nothing is seen
  pub begins : (n : ℕ) → n ≡ length R → Searches R (replicate n false) (replicate n 0) [] []
  begins n e = record {
    seen_sized = length-replicate n false ∙ e;
    followed_sized = length-replicate n 0 ∙ e;
    on_path = λ x h. Stands-none x h;
    is_done = λ x h. Stands-none x h;
    listed = λ x h. absurd (none_seen n x h);
    counts = omega (arith, unseen-none n);
    leads = λ i j x y l e e'. absurd (omega (arith, within [] i x e));
    seen_edges = λ x c y l e. absurd (omega (arith, l, none_followed n x));
    all_followed = λ x h. Stands-none x h;
    folded = λ i j k x y z l m e e' e'' g. absurd (omega (arith, within [] i x e));
    back = λ i j x y z l e e' g h. absurd (omega (arith, within [] i x e));
  }

  -- one more line is seen, and ends the path
  pub enters : (seen : List Bool) (followed path done : List ℕ) (t : ℕ) → Searches R seen followed path done → t < length R → has seen t ≡ false → ((i x : ℕ) → slice_get path i ≡ Some x → Reach R x t) → Searches R (set seen t true) followed (path ++ t ∷ []) done
  enters seen followed path done t h l new leads = record {
    seen_sized = length-set seen t true ∙ h.seen_sized;
    followed_sized = h.followed_sized;
    on_path = λ x s. elim (Stands-cases path t x s) [
      | inl e ↦ has-set_keep seen t x (h.on_path x e)
      | inr e ↦ subst (λ k. has (set seen t true) k ≡ true) e (has-set_same seen t (omega (arith, h.seen_sized)))
    ];
    is_done = λ x s. has-set_keep seen t x (h.is_done x s);
    listed = λ x s. elim (has-set_cases seen t x s) [
      | inl e ↦ (elim (h.listed x e) [ inl p ↦ inl (Stands-keep path (t ∷ []) x p) | inr d ↦ inr d ])
      | inr e ↦ inl (subst (λ k. Stands (path ++ t ∷ []) k) e (Stands-last path t))
    ];
    counts = omega (arith, h.counts, unseen-set seen t (omega (arith, h.seen_sized)) new, length-append path (t ∷ []));
    leads = λ i j x y m e f. elim (get-cases path t j y f) [
      | inl g ↦ h.leads i j x y m (front i x (omega (arith, within path j y g)) e) g
      | inr g ↦ (elim (get-cases path t i x e) [
        | inl d ↦ subst (λ k. Reach R x k) g.1 (leads i x d)
        | inr d ↦ subst (λ k. Reach R x k) (sym d.1 ∙ g.1) (here x)
      ])
    ];
    seen_edges = λ x c y m e. has-set_keep seen t y (h.seen_edges x c y m e);
    all_followed = h.all_followed;
    folded = h.folded;
    back = λ i j x y z m e f g s. elim (Stands-cases path t z s) [
      | inl p ↦ h.back i j x y z m e f g p
      | inr d ↦ absurd (never x z i g e d)
    ];
  }
    where
      front : (i x : ℕ) → i < length path → slice_get (path ++ t ∷ []) i ≡ Some x → slice_get path i ≡ Some x
      front i x m e = elim (get-cases path t i x e) [ inl d ↦ d | inr d ↦ absurd (omega (arith, d.0)) ]

      never : (x z i : ℕ) → IsEdge R x z → slice_get done i ≡ Some x → t ≡ z → ⊥
      never x z i g e d =
          let whole : length (row R x) ≤ get_or followed x 0 = h.all_followed x (record { place = i; is = e }) in
          let seen_z : has seen z ≡ true = h.seen_edges x g.place z (omega (arith, within (row R x) g.place z g.is)) g.is in
          let seen_t : has seen t ≡ true = ap (has seen) d ∙ seen_z in
          cc

  -- one more edge is followed
  pub follows : (seen : List Bool) (followed path done : List ℕ) (v t : ℕ) → Searches R seen followed path done → v < length R → slice_get (row R v) (get_or followed v 0) ≡ Some t → has seen t ≡ true → Searches R seen (set followed v (get_or followed v 0 + 1)) path done
  follows seen followed path done v t h l edge s = record {
    seen_sized = h.seen_sized;
    followed_sized = length-set followed v (get_or followed v 0 + 1) ∙ h.followed_sized;
    on_path = h.on_path;
    is_done = h.is_done;
    listed = h.listed;
    counts = h.counts;
    leads = h.leads;
    seen_edges = λ x c y m e. elim (same_or_not x v) [ inl d ↦ at_v x c y m e d | inr n ↦ h.seen_edges x c y (elsewhere x c n m) e ];
    all_followed = λ x d. omega (arith, h.all_followed x d, more_followed followed v x (omega (arith, h.followed_sized)));
    folded = h.folded;
    back = h.back;
  }
    where
      elsewhere : (x c : ℕ) → x ≢ v → c < get_or (set followed v (get_or followed v 0 + 1)) x 0 → c < get_or followed x 0
      elsewhere x c n m = omega (arith, get_or-set_other followed v x (get_or followed v 0 + 1) 0 n)

      at_v : (x c y : ℕ) → c < get_or (set followed v (get_or followed v 0 + 1)) x 0 → slice_get (row R x) c ≡ Some y → x ≡ v → has seen y ≡ true
      at_v x c y m e d =
          let m' : c < get_or (set followed v (get_or followed v 0 + 1)) v 0 = subst (λ k. c < get_or (set followed v (get_or followed v 0 + 1)) k 0) d m in
          let e' : slice_get (row R v) c ≡ Some y = subst (λ k. slice_get (row R k) c ≡ Some y) d e in
          let m'' : c < get_or followed v 0 + 1 = omega (arith, get_or-set_same followed v (get_or followed v 0 + 1) 0 (omega (arith, h.followed_sized))) in
          elim (same_or_not c (get_or followed v 0)) [
            | inl q ↦ last c y q e'
            | inr n ↦ h.seen_edges v c y (omega arith) e'
          ]
        where
          last : (c y : ℕ) → c ≡ get_or followed v 0 → slice_get (row R v) c ≡ Some y → has seen y ≡ true
          last c y q e =
              let e'' : slice_get (row R v) (get_or followed v 0) ≡ Some y = subst (λ k. slice_get (row R v) k ≡ Some y) q e in
              let same : t ≡ y = cc in
              ap (has seen) (sym same) ∙ s

  -- the line that ends the path is left
  pub leaves : (seen : List Bool) (followed front done : List ℕ) (v : ℕ) → Searches R seen followed (front ++ v ∷ []) done → length (row R v) ≤ get_or followed v 0 → Searches R seen followed front (done ++ v ∷ [])
  leaves seen followed front done v h whole = record {
    seen_sized = h.seen_sized;
    followed_sized = h.followed_sized;
    on_path = λ x s. h.on_path x (Stands-keep front (v ∷ []) x s);
    is_done = λ x s. elim (Stands-cases done v x s) [
      | inl e ↦ h.is_done x e
      | inr e ↦ h.on_path x (subst (λ k. Stands (front ++ v ∷ []) k) e (Stands-last front v))
    ];
    listed = λ x s. elim (h.listed x s) [
      | inl p ↦ (elim (Stands-cases front v x p) [ inl e ↦ inl e | inr e ↦ inr (subst (λ k. Stands (done ++ v ∷ []) k) e (Stands-last done v)) ])
      | inr d ↦ inr (Stands-keep done (v ∷ []) x d)
    ];
    counts = omega (arith, h.counts, length-append front (v ∷ []), length-append done (v ∷ []));
    leads = λ i j x y m e f. h.leads i j x y m (get-keep front (v ∷ []) i x e) (get-keep front (v ∷ []) j y f);
    seen_edges = h.seen_edges;
    all_followed = λ x s. elim (Stands-cases done v x s) [
      | inl e ↦ h.all_followed x e
      | inr e ↦ subst (λ k. length (row R k) ≤ get_or followed k 0) e whole
    ];
    folded = λ i j k x y z m n e f g edge. elim (get-cases done v k z g) [
      | inl g' ↦ h.folded i j k x y z m n (old i x (omega (arith, within done k z g')) e) (old j y (omega (arith, within done k z g')) f) g' edge
      | inr g' ↦ (elim (get-cases done v j y f) [
        | inl f' ↦ h.back i j x y z m (old i x (omega (arith, within done j y f')) e) f' edge (subst (λ q. Stands (front ++ v ∷ []) q) g'.1 (Stands-last front v))
        | inr f' ↦ subst (λ q. Reach R z q) (sym g'.1 ∙ f'.1) (here z)
      ])
    ];
    back = λ i j x y z m e f edge s. elim (get-cases done v j y f) [
      | inl f' ↦ h.back i j x y z m (old i x (omega (arith, within done j y f')) e) f' edge (Stands-keep front (v ∷ []) z s)
      | inr f' ↦ subst (λ q. Reach R z q) f'.1 (h.leads s.place (length front) z v (omega (arith, within front s.place z s.is)) (get-keep front (v ∷ []) s.place z s.is) (get-last front v))
    ];
  }
    where
      old : (i x : ℕ) → i < length done → slice_get (done ++ v ∷ []) i ≡ Some x → slice_get done i ≡ Some x
      old i x m e = elim (get-cases done v i x e) [ inl d ↦ d | inr d ↦ absurd (omega (arith, d.0)) ]

  -- where all was seen and the path is empty, all was left
  pub ends_finished : (seen : List Bool) (followed done : List ℕ) → Searches R seen followed [] done → ((x : ℕ) → x < length R → has seen x ≡ true) → IsFinishingOrder R done
  ends_finished seen followed done h all = record {
    sized = omega (arith, h.counts, all_seen seen (λ x l. all x (omega (arith, h.seen_sized))));
    each = λ x l. elim (h.listed x (all x l)) [ inl p ↦ Stands-none x p | inr d ↦ d ];
    inside = λ x s. omega (arith, has-below seen x (h.is_done x s), h.seen_sized);
    folded = h.folded;
  }

  -- the line that ends the path is one of the graph
  pub last_inside : (seen : List Bool) (followed front done : List ℕ) (v : ℕ) → Searches R seen followed (front ++ v ∷ []) done → v < length R
  last_inside seen followed front done v h = omega (arith, has-below seen v (h.on_path v (Stands-last front v)), h.seen_sized)

-- a step as the code takes it: f and g are what was read of the edges followed, b whether the target was seen
module _ (R : List (List ℕ)) (rows : AreRows R) (seen : List Bool) (followed front done : List ℕ) (v : ℕ) (h : Searches R seen followed (front ++ v ∷ []) done) where
  pub target_inside : (t f : ℕ) → Some t ≡ slice_get (row R v) f → t < length R
  target_inside t f e = rows v t (record { place = f; is = sym e })

  read_followed : (f : ℕ) → f ≡ get_or followed v f → get_or followed v 0 ≡ f
  read_followed f e = read_number followed v f (omega (arith, last_inside R seen followed front done v h, h.followed_sized)) e

  less : (t f : ℕ) → f ≡ get_or followed v f → Some t ≡ slice_get (row R v) f → unfollowed R (set followed v (get_or followed v 0 + 1)) + 1 ≡ unfollowed R followed
  less t f e edge = unfollowed-set R followed v (last_inside R seen followed front done v h) h.followed_sized (omega (arith, read_followed f e, within (row R v) f t (sym edge)))

  pub record Next (seen' : List Bool) (followed' path' done' : List ℕ) : Type 0 where
    pub search : Searches R seen' followed' path' done'
    pub shorter : work R followed' path' < work R followed (front ++ v ∷ [])

  pub step_enters : (t f g : ℕ) (b : Bool) (seen' : List Bool) (followed' path path' done' : List ℕ) → f ≡ get_or followed v f → g ≡ get_or followed v g → Some t ≡ slice_get (row R v) f → b ≡ get_or seen t b → b ≡ false → path ≡ front ++ v ∷ [] → seen' ≡ set seen t true → followed' ≡ set followed v (g + 1) → path' ≡ path ++ t ∷ [] → done' ≡ done → Next seen' followed' path' done'
  step_enters t f g b seen' followed' path path' done' f-is g-is edge b-is new p s-is fo-is p-is d-is =
      let l : t < length R = target_inside t f edge in
      let unseen_t : has seen t ≡ false = read_bool seen t b (omega (arith, h.seen_sized)) b-is ∙ new in
      let at : slice_get (row R v) (get_or followed v 0) ≡ Some t = ap (slice_get (row R v)) (read_followed f f-is) ∙ sym edge in
      let leads : (i x : ℕ) → slice_get (front ++ v ∷ []) i ≡ Some x → Reach R x t = λ i x e. one_more R x v t (h.leads i (length front) x v (omega (arith, within (front ++ v ∷ []) i x e, length-append front (v ∷ []))) e (get-last front v)) (record { place = f; is = sym edge }) in
      let entered = enters R seen followed (front ++ v ∷ []) done t h l unseen_t leads in
      let done_it = follows R (set seen t true) followed ((front ++ v ∷ []) ++ t ∷ []) done v t entered (last_inside R seen followed front done v h) at (has-set_same seen t (omega (arith, h.seen_sized))) in
      let fo : set followed v (get_or followed v 0 + 1) ≡ followed' = ap (λ n. set followed v (n + 1)) (read_followed g g-is) ∙ sym fo-is in
      let path_is : (front ++ v ∷ []) ++ t ∷ [] ≡ path' = ap (λ (xs : List ℕ). xs ++ t ∷ []) (sym p) ∙ sym p-is in
      record {
        search = subst (λ xs. Searches R xs followed' path' done') (sym s-is) (subst (λ xs. Searches R (set seen t true) xs path' done') fo (subst (λ xs. Searches R (set seen t true) (set followed v (get_or followed v 0 + 1)) xs done') path_is (subst (λ xs. Searches R (set seen t true) (set followed v (get_or followed v 0 + 1)) ((front ++ v ∷ []) ++ t ∷ []) xs) (sym d-is) done_it)));
        shorter = omega (arith, less t f f-is edge, ap (unfollowed R) fo, ap length path_is, length-append (front ++ v ∷ []) (t ∷ []));
      }

  pub step_skips : (t f g : ℕ) (b : Bool) (path : List ℕ) → f ≡ get_or followed v f → g ≡ get_or followed v g → Some t ≡ slice_get (row R v) f → b ≡ get_or seen t b → b ≡ true → path ≡ front ++ v ∷ [] → Next seen (set followed v (g + 1)) path done
  step_skips t f g b path f-is g-is edge b-is old p =
      let l : t < length R = target_inside t f edge in
      let seen_t : has seen t ≡ true = read_bool seen t b (omega (arith, h.seen_sized)) b-is ∙ old in
      let at : slice_get (row R v) (get_or followed v 0) ≡ Some t = ap (slice_get (row R v)) (read_followed f f-is) ∙ sym edge in
      let done_it = follows R seen followed (front ++ v ∷ []) done v t h (last_inside R seen followed front done v h) at seen_t in
      let fo : set followed v (get_or followed v 0 + 1) ≡ set followed v (g + 1) = ap (λ n. set followed v (n + 1)) (read_followed g g-is) in
      record {
        search = subst (λ xs. Searches R seen xs path done) fo (subst (λ xs. Searches R seen (set followed v (get_or followed v 0 + 1)) xs done) (sym p) done_it);
        shorter = omega (arith, less t f f-is edge, ap (unfollowed R) fo, ap length p);
      }

  pub step_leaves : (f : ℕ) (done' : List ℕ) → f ≡ get_or followed v f → None ≡ slice_get (row R v) f → done' ≡ done ++ v ∷ [] → Searches R seen followed front done'
  step_leaves f done' f-is none d = subst (λ xs. Searches R seen followed front xs) (sym d) (leaves R seen followed front done v h (omega (arith, read_followed f f-is, past (row R v) f (sym none))))
    where
      past : (xs : List ℕ) (i : ℕ) → slice_get xs i ≡ None → length xs ≤ i
      past [] i e = omega arith
      past (x ∷ xs) zero e = cc
      past (x ∷ xs) (suc i) e = omega (arith, past xs i e)

-- a visit begins
pub visit_begins : (R : List (List ℕ)) (seen seen' : List Bool) (followed followed' path path' done done' : List ℕ) (t : ℕ) → Searches R seen followed path done → path ≡ [] → t < length R → has seen t ≡ false → seen' ≡ set seen t true → path' ≡ path ++ t ∷ [] → followed' ≡ followed → done' ≡ done → Searches R seen' followed' path' done'
visit_begins R seen seen' followed followed' path path' done done' t h e l new s p f d =
    let entered : Searches R (set seen t true) followed (path ++ t ∷ []) done = enters R seen followed path done t h l new (λ i x g. absurd (omega (arith, within path i x g, ap length e))) in
    subst (λ xs. Searches R xs followed' path' done') (sym s) (subst (λ xs. Searches R (set seen t true) xs path' done') (sym f) (subst (λ xs. Searches R (set seen t true) followed xs done') (sym p) (subst (λ xs. Searches R (set seen t true) followed (path ++ t ∷ []) xs) (sym d) entered)))

-- the buffers of a search that begins
pub begun_with : (R : List (List ℕ)) (n : ℕ) (seen : List Bool) (followed path done : List ℕ) → n ≡ length R → seen ≡ replicate n false → followed ≡ replicate n 0 → path ≡ [] → done ≡ [] → Searches R seen followed path done
begun_with R n seen followed path done e s f p d =
    subst (λ xs. Searches R xs followed path done) (sym s) (subst (λ xs. Searches R (replicate n false) xs path done) (sym f) (subst (λ xs. Searches R (replicate n false) (replicate n 0) xs done) (sym p) (subst (λ xs. Searches R (replicate n false) (replicate n 0) [] xs) (sym d) (begins R n e))))

pub seen_below : (seen : List Bool) (k : ℕ) → ((x : ℕ) → x < k → has seen x ≡ true) → has seen k ≡ true → (x : ℕ) → x < k + 1 → has seen x ≡ true
seen_below seen k h s x l = elim (same_or_not x k) [ inl e ↦ subst (λ z. has seen z ≡ true) (sym e) s | inr n ↦ h x (omega arith) ]
