-- Two transitions whose guards hold together, by the node of both guards.
use Rattle.std.proofs.Common.{◌≡◌, ℕ, zero, suc, ◌<◌, List, [], ◌∷◌, Option, Some, None, Bool, true, false, ◌&&◌, map, length, get_or, slice_get, refl, sym, ap, ◌∙◌, subst, arith, Ok, MatchOption}
use Rattle.std.proofs.lemmas.List.{length-map}
use Rattle.std.proofs.lemmas.Option.{slice_get-get_or}
use Rattle.dd_core.specs.declared.nodes.NodeId.{NodeId}
use Rattle.dd_core.specs.Functions.{AreEqual, both, constant}
use Rattle.dd_core.specs.Arenas.{ArenaView, IsArena, Holds, function_of, Keeps, Makes}
use Rattle.dd_ops.specs.Least.{IsLeast}
use Rattle.argos_base.specs.SignalSets.{SignalSet, has}
use Rattle.argos_base.specs.declared.signals.SigId.{SigId}
use Rattle.argos_base.proofs.Bools.{and_first, and_second, and_both}
use Rattle.argos_core.specs.Guards.{holds}
use Rattle.argos_core.specs.Overlaps.{HaveOneEffect}
use Rattle.argos_core.specs.Process.{Transition}
use Rattle.argos_core.specs.Views.{transition_of, numbers}
use Rattle.argos_core.specs.declared.prog.Trans.{Trans}
use Rattle.instant_check.specs.Telling.{DenotesTest}
use Rattle.instant_check.specs.inner.Meeting.{Meets, AreGuards, NeverMeet, IsLeastMeeting}
use Rattle.instant_check.proofs.TestDiagrams.{test_later, test_both, test_false, sized_numbers}

-- the transition at a place, and its node
pub transition_at : (ts : List Trans) (k : ℕ) (d : Trans) → k < length ts → slice_get (map transition_of ts) k ≡ Some (transition_of (get_or ts k d))
transition_at [] k d below = absurd (omega arith)
transition_at (t ∷ ts) zero d below = refl
transition_at (t ∷ ts) (suc k) d below = transition_at ts k d (omega arith)

pub transition_here : (ts : List Trans) (k : ℕ) (t : Trans) → k < length ts → t ≡ get_or ts k t → slice_get (map transition_of ts) k ≡ Some (transition_of t)
transition_here ts k t below is = transition_at ts k t below ∙ ap (λ (u : Trans). Some (transition_of u)) (sym is)

pub transition_within : (ts : List Trans) (k : ℕ) → k < length ts → (t : Transition) × (slice_get (map transition_of ts) k ≡ Some t)
transition_within [] k below = absurd (omega arith)
transition_within (t ∷ ts) zero below = (transition_of t, refl)
transition_within (t ∷ ts) (suc k) below = transition_within ts k (omega arith)

one_transition : {t u : Transition} → ◌≡◌ {A = Option Transition} (Some t) (Some u) → t ≡ u
one_transition e = cc

-- what a guard's node denotes
pub guard_at : {arena : ArenaView} {signals : List ℕ} {nodes : List NodeId} (ts : List Trans) (k : ℕ) (d : NodeId) (t : Transition) → AreGuards arena signals (map transition_of ts) nodes → k < length ts → slice_get (map transition_of ts) k ≡ Some t → DenotesTest arena (get_or nodes k d).0 signals (holds t.guard)
guard_at {arena} {signals} {nodes} ts k d t are below at = are.each k (get_or nodes k d) t (slice_get-get_or nodes k d (omega (arith, are.sized, length-map ts transition_of))) at

pub guards_later : {a b : ArenaView} {signals : List ℕ} {ts : List Transition} {nodes : List NodeId} → length signals ≡ a.variables → Keeps a b → AreGuards a signals ts nodes → AreGuards b signals ts nodes
guards_later sized keeps are = record { sized = are.sized; each = λ k f t at_f at_t. test_later sized keeps (are.each k f t at_f at_t) }

-- the node of both guards of two transitions
pub record Joins (arena : ArenaView) (h : ℕ) (signals : List ℕ) (ts : List Transition) (x y : ℕ) : Type 0 where
  pub first : Transition
  pub first_at : slice_get ts x ≡ Some first
  pub second : Transition
  pub second_at : slice_get ts y ≡ Some second
  pub joint : DenotesTest arena h signals (λ S. holds first.guard S && holds second.guard S)

pub guard_held : {arena : ArenaView} {signals : List ℕ} {nodes : List NodeId} (ts : List Trans) (k : ℕ) (d : NodeId) → AreGuards arena signals (map transition_of ts) nodes → k < length ts → Holds arena (get_or nodes k d).0
guard_held ts k d are below = let t = transition_within ts k below in (guard_at ts k d t.0 are below t.1).held

pub joined : {m : ℕ} {a b : ArenaView} {nodes : List NodeId} {h : NodeId} (signals : List SigId) (ts : List Trans) (x y : ℕ) (d e : NodeId) → length signals ≡ a.variables → AreGuards a (numbers signals) (map transition_of ts) nodes → x < length ts → y < length ts → Makes m a b (both (function_of a (get_or nodes x d).0) (function_of a (get_or nodes y e).0)) (Ok h) → Joins b h.0 (numbers signals) (map transition_of ts) x y
joined {m} {a} {b} signals ts x y d e sized are x_in y_in made =
    let t = transition_within ts x x_in in
    let u = transition_within ts y y_in in
    record {
      first = t.0;
      first_at = t.1;
      second = u.0;
      second_at = u.1;
      joint = test_both (sized_numbers signals a.variables sized) (guard_at ts x d t.0 are x_in t.1) (guard_at ts y e u.0 are y_in u.1) made;
    }

-- where they meet, the node is true
meeting_true : {arena : ArenaView} {h : ℕ} {signals : List ℕ} {ts : List Transition} {n x y : ℕ} (S : SignalSet) → Joins arena h signals ts x y → Meets n ts x y S → function_of arena h (map (has S) signals) ≡ true
meeting_true S j m =
    let t : j.first ≡ m.first = one_transition (sym j.first_at ∙ m.first_at) in
    let u : j.second ≡ m.second = one_transition (sym j.second_at ∙ m.second_at) in
    let p : holds j.first.guard S ≡ true = ap (λ (z : Transition). holds z.guard S) t ∙ m.first_holds in
    let q : holds j.second.guard S ≡ true = ap (λ (z : Transition). holds z.guard S) u ∙ m.second_holds in
    j.joint.exact S ∙ and_both (holds j.first.guard S) (holds j.second.guard S) p q

true≢false : {b : Bool} → b ≡ true → b ≡ false → ⊥
true≢false p q = cc

-- the node is false everywhere
pub never_false : {arena : ArenaView} {h : ℕ} {signals : List ℕ} {ts : List Transition} {n x y : ℕ} → length signals ≡ arena.variables → Joins arena h signals ts x y → AreEqual arena.variables (function_of arena h) (constant false) → NeverMeet n ts x y
never_false {arena} {h} {signals} sized j none S m = true≢false (meeting_true S j m) (none (map (has S) signals) (length-map signals (has S) ∙ sized))

pub never_constant : {arena : ArenaView} {h : ℕ} {signals : List ℕ} {ts : List Transition} {n x y : ℕ} → IsArena arena → Joins arena h signals ts x y → h ≡ 0 → NeverMeet n ts x y
never_constant {arena} {h} {signals} valid j e S m =
    true≢false (meeting_true S j m) (ap (λ (z : ℕ). function_of arena z (map (has S) signals)) e ∙ (test_false arena signals valid).exact S)

-- the two have one effect
pub never_alike : {ts : List Transition} {n x y : ℕ} (t u : Transition) → slice_get ts x ≡ Some t → slice_get ts y ≡ Some u → HaveOneEffect n t u → NeverMeet n ts x y
never_alike {ts} {n} t u at_t at_u alike S m =
    let p : t ≡ m.first = one_transition (sym at_t ∙ m.first_at) in
    let q : u ≡ m.second = one_transition (sym at_u ∙ m.second_at) in
    m.differ (subst (λ (z : Transition). HaveOneEffect n z m.second) p (subst (λ (z : Transition). HaveOneEffect n t z) q alike))

-- the least values that make the node true
pub meeting_found : {arena : ArenaView} {h : ℕ} {signals : List ℕ} {ts : List Transition} {n x y : ℕ} {values : List Bool} (t u : Transition) → length signals ≡ arena.variables → Joins arena h signals ts x y → slice_get ts x ≡ Some t → slice_get ts y ≡ Some u → ¬ (HaveOneEffect n t u) → IsLeast arena.variables (function_of arena h) values → IsLeastMeeting n signals ts x y values
meeting_found {arena} {h} {signals} {ts} {n} {x} {y} {values} t u sized j at_t at_u differ least =
    let p : t ≡ j.first = one_transition (sym at_t ∙ j.first_at) in
    let q : u ≡ j.second = one_transition (sym at_u ∙ j.second_at) in
    record {
      sized = least.sized ∙ sym sized;
      meets = λ S e.
          let on : (holds j.first.guard S && holds j.second.guard S) ≡ true = sym (j.joint.exact S) ∙ ap (function_of arena h) e ∙ least.holds in
          record {
            first = j.first;
            first_at = j.first_at;
            second = j.second;
            second_at = j.second_at;
            first_holds = and_first (holds j.first.guard S) (holds j.second.guard S) on;
            second_holds = and_second (holds j.first.guard S) (holds j.second.guard S) on;
            differ = subst (λ (z : Transition). ¬ (HaveOneEffect n z j.second)) p (subst (λ (z : Transition). ¬ (HaveOneEffect n t z)) q differ);
          };
      least = λ S m. least.first (map (has S) signals) (length-map signals (has S) ∙ sized) (meeting_true S j m);
    }

pub match_weaker : {X M N : Type 0} {P Q : X → Type 0} (found : Option X) → (M → N) → ((x : X) → P x → Q x) → MatchOption found M P → MatchOption found N Q
match_weaker None none some h = none h
match_weaker (Some x) none some h = some x h

pub match_none : {X M : Type 0} (found : Option X) (P : X → Type 0) → found ≡ None → MatchOption found M P → M
match_none None P e h = h
match_none (Some x) P e h = cc

pub match_some : {X : Type 0} (found : Option X) (M : Type 0) (P : X → Type 0) (x : X) → found ≡ Some x → MatchOption found M P → P x
match_some None M P x e h = cc
match_some (Some y) M P x e h = let same : y ≡ x = cc in subst P same h
