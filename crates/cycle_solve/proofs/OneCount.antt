-- Functions that tell least chosen sets are the same for the same sets, and their diagrams have one number of nodes.
use Rattle.std.proofs.Common.{◌≡◌, ◌↔◌, ℕ, zero, suc, ◌+◌, ◌-◌, ◌<◌, ◌≤◌, List, [], ◌∷◌, ◌++◌, Some, Bool, true, false, refl, sym, ap, ◌∙◌, subst, arith, length, take, drop, append_assoc, length-append}
use Rattle.std.specs.List.{slice_get}
use Rattle.std.proofs.lemmas.List.{length-take-le, length-drop, take-append-drop}
use Rattle.std.proofs.lemmas.Option.{slice_get_within, slice_get_cases}
use Rattle.argos_base.specs.Machines.{Choosing, IsLeastChosen}
use Rattle.argos_base.specs.Orders.{IsEarlier, digits}
use Rattle.argos_base.specs.SignalSets.{SignalSet, has}
use Rattle.dd_core.specs.Functions.{Function, AreEqual, IsCofactor}
use Rattle.eqn_completion.specs.Binary.{in_binary, memory_of, digits_in, FitsIn}
use Rattle.eqn_completion.proofs.Ordering.{binary-memory, fits-memory}
use Rattle.eqn_dd.specs.Laws.{row_of}
use Rattle.eqn_verdict.specs.SolvedNodes.{IsCofactorOfSome, AreNodesOf}
use Rattle.cycle_solve.specs.LeastFunctions.{IsInLeast, AreLeastFunctions, HaveNodes, HaveLeastNodes}
use Rattle.cycle_solve.proofs.Pigeonholes.{pigeonholes}

-- equal functions, place by place
abbrev pub AreSame : ℕ → List Function → List Function → Type 0
AreSame v fs hs = (j : ℕ) (f : Function) → slice_get fs j ≡ Some f → (h : Function) × ((slice_get hs j ≡ Some h) × AreEqual v f h)

drop-sized : (n v : ℕ) (x : List Bool) → n ≤ v → length x ≡ v → length (drop n x) ≡ v - n
drop-sized n v x low sized = length-drop n x ∙ ap (λ (k : ℕ). k - n) sized

-- so each cofactor of one is one of the other
module _ (v : ℕ) (fs hs : List Function) (same : AreSame v fs hs) where
  cofactor-moved : (g : Function) → IsCofactorOfSome v fs g → IsCofactorOfSome v hs g
  cofactor-moved g (j, (f, (at, is))) =
      let h = same j f at in
      let n = length is.fixed in (
        j,
        (
          h.0,
          (
            h.1.0,
            record {
              fixed = is.fixed;
              bound = is.bound;
              equal = λ x sized. is.equal x sized ∙ h.1.1 (is.fixed ++ drop n x) (length-append is.fixed (drop n x) ∙ ap (λ (k : ℕ). n + k) (drop-sized n v x is.bound sized) ∙ (let b = is.bound in omega arith));
            },
          ),
        ),
      )

  -- and one has no more nodes than the other
  nodes-within : (gs ks : List Function) → AreNodesOf v fs gs → AreNodesOf v hs ks → length gs ≤ length ks
  nodes-within gs ks a b = pigeonholes (length gs) (length ks) Has place one
    where
      Has : ℕ → ℕ → Type 0
      Has i j = (g h : Function) × (slice_get gs i ≡ Some g) × (slice_get ks j ≡ Some h) × AreEqual v g h

      node-at : (i : ℕ) → i < length gs → (g : Function) × (slice_get gs i ≡ Some g)
      node-at i low = there gs i low
        where
          there : (xs : List Function) (i : ℕ) → i < length xs → (g : Function) × (slice_get xs i ≡ Some g)
          there [] i low = absurd (omega arith)
          there (x ∷ xs) zero low = (x, refl)
          there (x ∷ xs) (suc i) low = there xs i (omega arith)

      place : (i : ℕ) → i < length gs → (j : ℕ) × ((j < length ks) × Has i j)
      place i low =
          let g = node-at i low in
          let is = a.each i g.0 g.1 in
          let k = b.all g.0 (cofactor-moved g.0 is.0) is.1 in
          (k.0, (slice_get_within ks k.0 k.1.0 k.1.1.0, (g.0, k.1.0, g.1, k.1.1.0, k.1.1.1)))

      one : (i k j : ℕ) → i < length gs → k < length gs → Has i j → Has k j → i ≡ k
      one i k j low high (g, h, at, there, same) (g', h', at', there', same') =
          a.different i k g g' at at' (λ x sized. same x sized ∙ ap (λ (f : Function). f x) (only h h' there there') ∙ sym (same' x sized))
        where
          only : (h h' : Function) → slice_get ks j ≡ Some h → slice_get ks j ≡ Some h' → h ≡ h'
          only h h' e f = let s : Some h ≡ Some h' = sym e ∙ f in inner h h' s
            where
              inner : (h h' : Function) → Some h ≡ Some h' → h ≡ h'
              inner h h' e = cc

one-count : (v : ℕ) (fs hs : List Function) (m n : ℕ) → AreSame v fs hs → AreSame v hs fs → HaveNodes v fs m → HaveNodes v hs n → m ≡ n
one-count v fs hs m n a b x y =
    let low = nodes-within v fs hs a x.nodes y.nodes x.are y.are in
    let high = nodes-within v hs fs b y.nodes x.nodes y.are x.are in
    omega (arith, low, high, x.counted, y.counted)

-- each row is made of a memory, an input set and further values
module _ (widths : List ℕ) (inputs places : ℕ) (x : List Bool) (sized : length x ≡ digits_in widths + inputs + places) where
  abbrev row-memory : List ℕ
  row-memory = memory_of widths x

  abbrev behind : List Bool
  behind = drop (digits_in widths) x

  abbrev row-input : SignalSet
  row-input = take inputs behind

  abbrev row-rest : SignalSet
  row-rest = drop inputs behind

  behind-sized : length behind ≡ inputs + places
  behind-sized = drop-sized (digits_in widths) (digits_in widths + inputs + places) x (omega arith) sized ∙ omega arith

  row-fits : FitsIn widths row-memory
  row-fits = fits-memory widths x (omega arith)

  input-sized : length row-input ≡ inputs
  input-sized = length-take-le inputs behind (omega (arith, behind-sized))

  rest-sized : length row-rest ≡ places
  rest-sized = drop-sized inputs (inputs + places) behind (omega arith) behind-sized ∙ omega arith

  row-is : row_of widths row-memory row-input row-rest ≡ x
  row-is =
      append_assoc (in_binary widths row-memory) row-input row-rest
      ∙ ap (λ (l : List Bool). in_binary widths row-memory ++ l) (take-append-drop inputs behind)
      ∙ binary-memory widths x (omega arith)

same-truth : (a b : Bool) → (a ≡ true → b ≡ true) → (b ≡ true → a ≡ true) → a ≡ b
same-truth true b h k = sym (h refl)
same-truth false true h k = k refl
same-truth false false h k = refl

module _ (Chosen : Choosing) (IsMemory : List ℕ → Type 0) (widths : List ℕ) (inputs places : ℕ) where
  -- two lists of functions that tell the same sets are the same
  same-functions : (fs hs : List Function) → AreLeastFunctions Chosen IsMemory widths inputs places fs → AreLeastFunctions Chosen IsMemory widths inputs places hs → AreSame (digits_in widths + inputs + places) fs hs
  same-functions fs hs a b j f at =
      let h = there hs j (let low = slice_get_within fs j f at in omega (arith, a.sized, b.sized)) in
      (h.0, (h.1, λ x sized. at-row f h.0 at h.1 x sized))
    where
      there : (xs : List Function) (i : ℕ) → i < length xs → (g : Function) × (slice_get xs i ≡ Some g)
      there [] i low = absurd (omega arith)
      there (x ∷ xs) zero low = (x, refl)
      there (x ∷ xs) (suc i) low = there xs i (omega arith)

      at-row : (f h : Function) → slice_get fs j ≡ Some f → slice_get hs j ≡ Some h → AreEqual (digits_in widths + inputs + places) f h
      at-row f h at there x sized =
          let m = row-memory widths inputs places x sized in
          let i = row-input widths inputs places x sized in
          let y = row-rest widths inputs places x sized in
          let p = a.are j f m i y at (row-fits widths inputs places x sized) (input-sized widths inputs places x sized) (rest-sized widths inputs places x sized) in
          let q = b.are j h m i y there (row-fits widths inputs places x sized) (input-sized widths inputs places x sized) (rest-sized widths inputs places x sized) in
          subst (λ (z : List Bool). f z ≡ h z) (row-is widths inputs places x sized) (same-truth (f (row_of widths m i y)) (h (row_of widths m i y)) (λ t. q.1 (p.0 t)) (λ t. p.1 (q.0 t)))

  -- so there is one number of nodes
  pub one-least-count : (m n : ℕ) → HaveLeastNodes Chosen IsMemory widths inputs places m → HaveLeastNodes Chosen IsMemory widths inputs places n → m ≡ n
  one-least-count m n a b =
      one-count (digits_in widths + inputs + places) a.functions b.functions m n (same-functions a.functions b.functions a.are b.are) (same-functions b.functions a.functions b.are a.are) a.nodes b.nodes

-- the least chosen set is that of any machine that chooses the same sets there
least-same : (One Other : Choosing) (m : List ℕ) (i least : SignalSet) → ((x : SignalSet) → (One m i x) ↔ (Other m i x)) → IsLeastChosen One m i least → IsLeastChosen Other m i least
least-same One Other m i least same l = record { is = (same least).0 l.is; first = λ x c. l.first x ((same x).1 c) }

-- and its number of nodes too
module _ (One Other : Choosing) (IsMemory IsOther : List ℕ → Type 0) (widths : List ℕ) (inputs places : ℕ)
    (memories : (m : List ℕ) → (IsMemory m) ↔ (IsOther m)) (same : (m : List ℕ) (i x : SignalSet) → IsMemory m → (One m i x) ↔ (Other m i x)) where
  pub moved-count : (n : ℕ) → HaveLeastNodes One IsMemory widths inputs places n → HaveLeastNodes Other IsOther widths inputs places n
  moved-count n h = record {
    functions = h.functions;
    are = record {
      sized = h.are.sized;
      are = λ j f m i x at fit is xs.
          let e = h.are.are j f m i x at fit is xs in (
            (λ t. let y = e.0 t in ((memories m).0 y.0, (y.1.0, (least-same One Other m i y.1.0 (λ z. same m i z y.0) y.1.1.0, y.1.1.1)))),
            (λ y. let s = (memories m).1 y.0 in e.1 (s, (y.1.0, (least-same Other One m i y.1.0 (λ z. let b = same m i z s in (b.1, b.0)) y.1.1.0, y.1.1.1)))),
          );
    };
    nodes = h.nodes;
  }
