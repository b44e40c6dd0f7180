-- Lists of literals, one for each number.
use Rattle.std.proofs.Common.{◌≡◌, ℕ, zero, suc, ◌+◌, ◌-◌, ◌<◌, ◌≤◌, List, [], ◌∷◌, ◌++◌, Bool, true, false, nat_eq, if◌then◌else◌, refl, sym, ap, ◌∙◌, ◌⊎◌, inl, inr, subst, append_assoc, append-nil, arith, map, length, get_or, drop, set}
use Rattle.std.proofs.lemmas.Grind.{common_steps}
use Rattle.std.proofs.lemmas.List.{at_drop_more, at_drop_all, map_push}
use Rattle.argos_core.proofs.Numbers.{same_or_other, nat_eq-at, nat_eq-other}
use Rattle.argos_base.proofs.Bools.{true_or_false}
use Rattle.argos_core.specs.Views.{numbers}
use Rattle.argos_base.specs.declared.signals.SigId.{SigId}
use Rattle.smallvec.specs.SmallVec.{SmallVec}
use Rattle.eqn_core.specs.Equations.{Literal, Line}
use Rattle.eqn_core.specs.Equations as lines
use Rattle.eqn_core.specs.Views.{literal_of}
use Rattle.eqn_core.specs.declared.system.Lit.{Lit}
use Rattle.eqn_scheme.specs.Scheme.{plus, FireBit, fire_literals, entering, for_signal, emitting, signal_lines}
use Rattle.eqn_build.specs.declared.builder.Fire.{Fire}
use Rattle.eqn_build.specs.inner.BuilderViews.{fire_bit_of, any_line, literals, literals_at, LeadBelow, AreFrom, EmitFrom}

pub fire_literals-drop : (fs : List Fire) (i : ℕ) (d : Fire) → i < length fs → fire_literals (map fire_bit_of (drop i fs)) ≡ plus (get_or fs i d).bit ∷ fire_literals (map fire_bit_of (drop (i + 1) fs))
fire_literals-drop = at_drop_more (λ fs. fire_literals (map fire_bit_of fs))

pub entering-drop : (q : ℕ) (fs : List Fire) (i : ℕ) (d : Fire) → i < length fs
    → entering (map fire_bit_of (drop i fs)) q ≡ (if nat_eq (get_or fs i d).target q then plus (get_or fs i d).bit ∷ entering (map fire_bit_of (drop (i + 1) fs)) q else entering (map fire_bit_of (drop (i + 1) fs)) q)
entering-drop q = at_drop_more (λ fs. entering (map fire_bit_of fs) q)

pub emitting-drop : (k : ℕ) (fs : List Fire) (i : ℕ) (d : Fire) → i < length fs
    → emitting (map fire_bit_of (drop i fs)) k ≡ for_signal (get_or fs i d).bit (numbers (get_or fs i d).outs.items) k ++ emitting (map fire_bit_of (drop (i + 1) fs)) k
emitting-drop k = at_drop_more (λ fs. emitting (map fire_bit_of fs) k)

pub for_signal-drop : (bit k : ℕ) (ss : List SigId) (i : ℕ) (d : SigId) → i < length ss
    → for_signal bit (numbers (drop i ss)) k ≡ (if nat_eq (get_or ss i d).0 k then plus bit ∷ for_signal bit (numbers (drop (i + 1) ss)) k else for_signal bit (numbers (drop (i + 1) ss)) k)
for_signal-drop bit k = at_drop_more (λ ss. for_signal bit (numbers ss) k)

-- where a fire leads, and what it emits
pub lead_at : (n : ℕ) (fs : List Fire) (i : ℕ) (x : Fire) → LeadBelow n (map fire_bit_of fs) → i < length fs → x ≡ get_or fs i x → x.target < n
lead_at n [] i x h below is = absurd (omega arith)
lead_at n (f ∷ fs) zero x h below is = subst (λ (y : Fire). y.target < n) (sym is) h.0
lead_at n (f ∷ fs) (suc i) x h below is = lead_at n fs i x h.1 (omega arith) is

pub emit_at : (first count : ℕ) (fs : List Fire) (i : ℕ) (x : Fire) → EmitFrom first count (map fire_bit_of fs) → i < length fs → x ≡ get_or fs i x → AreFrom first count (numbers x.outs.items)
emit_at first count [] i x h below is = absurd (omega arith)
emit_at first count (f ∷ fs) zero x h below is = subst (λ (y : Fire). AreFrom first count (numbers y.outs.items)) (sym is) h.0
emit_at first count (f ∷ fs) (suc i) x h below is = emit_at first count fs i x h.1 (omega arith) is

pub from_at : (first count : ℕ) (ss : List SigId) (i : ℕ) (d : SigId) → AreFrom first count (numbers ss) → i < length ss → (first ≤ (get_or ss i d).0) × ((get_or ss i d).0 < first + count)
from_at first count [] i d h below = absurd (omega arith)
from_at first count (s ∷ ss) zero d h below = (h.0, h.1)
from_at first count (s ∷ ss) (suc i) d h below = from_at first count ss i d h.2 (omega arith)

nat_eq-suc : (a b : ℕ) → nat_eq (suc a) (suc b) ≡ nat_eq a b
nat_eq-suc a b = elim (same_or_other a b) [
  | inl same ↦ nat_eq-at (suc a) (suc b) (omega arith) ∙ sym (nat_eq-at a b same)
  | inr other ↦ nat_eq-other (suc a) (suc b) (λ e. other (omega arith)) ∙ sym (nat_eq-other a b other)
]

nat_eq-moved : (a first k : ℕ) → first ≤ a → nat_eq (a - first) k ≡ nat_eq a (first + k)
nat_eq-moved a first k low = elim (same_or_other a (first + k)) [
  | inl same ↦ nat_eq-at (a - first) k (omega arith) ∙ sym (nat_eq-at a (first + k) same)
  | inr other ↦ nat_eq-other (a - first) k (λ e. other (omega arith)) ∙ sym (nat_eq-other a (first + k) other)
]

-- one of the lists is longer now
pub literals_at-set : (vs : List (SmallVec Lit)) (i : ℕ) (v : SmallVec Lit) (l : Lit) (d : SmallVec Lit) (q : ℕ) → i < length vs → v.items ≡ (get_or vs i d).items ++ l ∷ []
    → literals_at (set vs i v) q ≡ (if nat_eq i q then literals_at vs q ++ literal_of l ∷ [] else literals_at vs q)
literals_at-set [] i v l d q below is = absurd (omega arith)
literals_at-set (x ∷ vs) zero v l d zero below is = ap (map literal_of) is ∙ map_push literal_of x.items l
literals_at-set (x ∷ vs) zero v l d (suc q) below is = rw (nat_eq-other 0 (suc q) (λ e. absurd (omega arith))) refl
literals_at-set (x ∷ vs) (suc i) v l d zero below is = rw (nat_eq-other (suc i) 0 (λ e. absurd (omega arith))) refl
literals_at-set (x ∷ vs) (suc i) v l d (suc q) below is = literals_at-set vs i v l d q (omega arith) is ∙ ap (λ (b : Bool). if b then literals_at vs q ++ literal_of l ∷ [] else literals_at vs q) (sym (nat_eq-suc i q))

pub literals_at-push : (vs : List (SmallVec Lit)) (v : SmallVec Lit) (q : ℕ) → v.items ≡ [] → ((k : ℕ) → literals_at vs k ≡ []) → literals_at (vs ++ v ∷ []) q ≡ []
literals_at-push [] v zero e h = ap (map literal_of) e
literals_at-push [] v (suc q) e h = refl
literals_at-push (x ∷ vs) v zero e h = h 0
literals_at-push (x ∷ vs) v (suc q) e h = literals_at-push vs v q e (λ k. h (suc k))

-- one more literal before what is left
pub moved_over : (b : Bool) (xs rest : List Literal) (x : Literal) → (if b then xs ++ x ∷ [] else xs) ++ rest ≡ xs ++ (if b then x ∷ rest else rest)
moved_over true xs rest x = append_assoc xs (x ∷ []) rest
moved_over false xs rest x = refl

pub emission_step : (new old start : List Literal) (x : Literal) (bit first : ℕ) (ss : List SigId) (i k : ℕ) (d : SigId) → i < length ss → first ≤ (get_or ss i d).0 → x ≡ plus bit → new ≡ (if nat_eq ((get_or ss i d).0 - first) k then old ++ x ∷ [] else old)
    → old ++ for_signal bit (numbers (drop i ss)) (first + k) ≡ start ++ for_signal bit (numbers ss) (first + k) → new ++ for_signal bit (numbers (drop (i + 1) ss)) (first + k) ≡ start ++ for_signal bit (numbers ss) (first + k)
emission_step new old start x bit first ss i k d below low is pushed before =
    let s = (get_or ss i d).0 in
    let rest = for_signal bit (numbers (drop (i + 1) ss)) (first + k) in
    ap (λ (l : List Literal). l ++ rest) pushed
    ∙ moved_over (nat_eq (s - first) k) old rest x
    ∙ ap (λ (b : Bool). old ++ (if b then x ∷ rest else rest)) (nat_eq-moved s first k low)
    ∙ ap (λ (y : Literal). old ++ (if nat_eq s (first + k) then y ∷ rest else rest)) is
    ∙ ap (λ (l : List Literal). old ++ l) (sym (for_signal-drop bit (first + k) ss i d below))
    ∙ before

pub any_lines-drop : (vs : List (SmallVec Lit)) (i : ℕ) (d : SmallVec Lit) → i < length vs → map any_line (drop i vs) ≡ any_line (get_or vs i d) ∷ map any_line (drop (i + 1) vs)
any_lines-drop = at_drop_more (map any_line)

-- where the lists are those of the signals, so are the lines
pub any_lines-signals : (vs : List (SmallVec Lit)) (fires : List FireBit) (first : ℕ) → ((k : ℕ) → literals_at vs k ≡ emitting fires (first + k)) → map any_line vs ≡ signal_lines fires first (length vs)
any_lines-signals [] fires first h = refl
any_lines-signals (v ∷ vs) fires first h =
    let here : first + 0 ≡ first = omega arith in
    ap (λ (l : List Literal). lines.any l ∷ map any_line vs) (h 0 ∙ ap (emitting fires) here)
    ∙ ap (λ (l : List Line). lines.any (emitting fires first) ∷ l) (any_lines-signals vs fires (suc first) (λ k. h (suc k) ∙ (let e : first + suc k ≡ suc first + k = omega arith in ap (emitting fires) e)))

pub signals_end : (vs : List (SmallVec Lit)) (fires : List Fire) (i first count : ℕ) → length fires ≤ i → length vs ≡ count
    → ((k : ℕ) → literals_at vs k ++ emitting (map fire_bit_of (drop i fires)) (first + k) ≡ emitting (map fire_bit_of fires) (first + k)) → map any_line vs ≡ signal_lines (map fire_bit_of fires) first count
signals_end vs fires i first count past sized h =
    any_lines-signals vs (map fire_bit_of fires) first (λ k. sym (append-nil (literals_at vs k)) ∙ sym (at_drop_all (λ (fs : List Fire). literals_at vs k ++ emitting (map fire_bit_of fs) (first + k)) fires i past) ∙ h k)
    ∙ ap (signal_lines (map fire_bit_of fires) first) sized

pub ruleset tables = (common_steps, fire_literals-drop, entering-drop, emitting-drop, for_signal-drop, any_lines-drop)
