-- What the definitions give of the toggle, and of its double, that has another state in place of its first one.
use Rattle.std.proofs.Common.{◌≡◌, ℕ, zero, suc, ◌<◌, List, [], ◌∷◌, ◌++◌, true, false, Some, slice_get, refl, sym, ap, ◌∙◌, ◌⊎◌, inl, inr, arith}
use Rattle.argos_base.specs.Names.{Spelled}
use Rattle.argos_core.specs.Codes.{code_of}
use Rattle.argos_core.specs.Configurations.{IsConfiguration, entered}
use Rattle.argos_core.specs.FirstBad.{ReactsCoded}
use Rattle.argos_core.specs.Layouts.{layout_of}
use Rattle.argos_core.specs.Process.{States, no_states, Configuration, at, beside, no_inner, inner, PlainModule}
use Rattle.argos_core.specs.Step.{transition}
use Rattle.argos_congruence.specs.Congruence.{is_shared, all_names}
use Rattle.bisim_formula.specs.Formulas.{Formula, left, right, in_state, always, never, all, any, formula, no_formulas}
use Rattle.eqn_dd.specs.Structural.{widths_of}
use Rattle.bisim_verdict.specs.Bisimulation.{LeavesRelation, OutputsDiffer, IsEquivAnswer, accept, interfaces, start, outputs, leaves}
use Rattle.bisim_verdict.specs.EquivTests.{point}
use Rattle.bisim_verdict.proofs.ExampleRows.{o_name, goes, then, program, plain, Row, row, more_rows, rows_at, state_rows, HasRows, same_names, all_agree, no_outputs, no_outputs_before, none_leaves_before}

-- Off and On
abbrev toggle_states : States
toggle_states = then (goes [] 1) (then (goes (1 ∷ []) 0) no_states)

-- Off, On and Off2
abbrev double_states : States
double_states = then (goes [] 1) (then (goes (1 ∷ []) 2) (then (goes [] 1) no_states))

abbrev toggle : PlainModule
toggle = program toggle_states

abbrev double : PlainModule
double = program double_states

toggle_only : (c : Configuration) → IsConfiguration toggle.process c → (c ≡ plain 0) ⊎ (c ≡ plain 1)
toggle_only (at zero e no_inner) h = inl (ap (λ x. at 0 x no_inner) h.0)
toggle_only (at zero e (inner d)) h = absurd h.1
toggle_only (at (suc zero) e no_inner) h = inr (ap (λ x. at 1 x no_inner) h.0)
toggle_only (at (suc zero) e (inner d)) h = absurd h.1
toggle_only (at (suc (suc q)) e b) h = absurd h
toggle_only (beside cs) h = absurd h

double_only : (c : Configuration) → IsConfiguration double.process c → (c ≡ plain 0) ⊎ ((c ≡ plain 1) ⊎ (c ≡ plain 2))
double_only (at zero e no_inner) h = inl (ap (λ x. at 0 x no_inner) h.0)
double_only (at zero e (inner d)) h = absurd h.1
double_only (at (suc zero) e no_inner) h = inr (inl (ap (λ x. at 1 x no_inner) h.0))
double_only (at (suc zero) e (inner d)) h = absurd h.1
double_only (at (suc (suc zero)) e no_inner) h = inr (inr (ap (λ x. at 2 x no_inner) h.0))
double_only (at (suc (suc zero)) e (inner d)) h = absurd h.1
double_only (at (suc (suc (suc q))) e b) h = absurd h
double_only (beside cs) h = absurd h

abbrev toggle_list : List Row
toggle_list = row 1 true false 2 ∷ row 1 false false 1 ∷ row 2 true true 1 ∷ row 2 false false 2 ∷ []

abbrev double_list : List Row
double_list = row 1 true false 2 ∷ row 1 false false 1 ∷ row 2 true true 3 ∷ row 2 false false 2 ∷ row 3 true false 2 ∷ row 3 false false 3 ∷ []

toggle_rows : HasRows toggle_states toggle_list
toggle_rows m m' b o r = elim (toggle_only r.configuration r.is) [
  | inl e ↦ more_rows (rows_at [] 0 1) (rows_at (1 ∷ []) 1 0) m b o m' (state_rows (entered toggle_states) (code_of toggle.process) [] 0 1 m m' b o r.reacts.emitted r.next (sym r.from ∙ ap (code_of toggle.process) e) refl refl (rw e at r.reacts.step) r.reacts.outputs r.to)
  | inr e ↦ inr (inr (state_rows (entered toggle_states) (code_of toggle.process) (1 ∷ []) 1 0 m m' b o r.reacts.emitted r.next (sym r.from ∙ ap (code_of toggle.process) e) refl refl (rw e at r.reacts.step) r.reacts.outputs r.to))
]

double_rows : HasRows double_states double_list
double_rows m m' b o r = elim (double_only r.configuration r.is) [
  | inl e ↦ more_rows (rows_at [] 0 1) (rows_at (1 ∷ []) 1 2 ++ rows_at [] 2 1) m b o m' (state_rows (entered double_states) (code_of double.process) [] 0 1 m m' b o r.reacts.emitted r.next (sym r.from ∙ ap (code_of double.process) e) refl refl (rw e at r.reacts.step) r.reacts.outputs r.to)
  | inr more ↦ elim more [
    | inl e ↦ inr (inr (more_rows (rows_at (1 ∷ []) 1 2) (rows_at [] 2 1) m b o m' (state_rows (entered double_states) (code_of double.process) (1 ∷ []) 1 2 m m' b o r.reacts.emitted r.next (sym r.from ∙ ap (code_of double.process) e) refl refl (rw e at r.reacts.step) r.reacts.outputs r.to)))
    | inr e ↦ inr (inr (inr (inr (state_rows (entered double_states) (code_of double.process) [] 2 1 m m' b o r.reacts.emitted r.next (sym r.from ∙ ap (code_of double.process) e) refl refl (rw e at r.reacts.step) r.reacts.outputs r.to))))
  ]
]

-- lhs 0 in Off and (rhs 0 in Off or rhs 0 in Off2) or lhs 0 in On and rhs 0 in On
abbrev relation : Formula
relation = any (formula (all (formula (in_state left 0 0) (formula (any (formula (in_state right 0 0) (formula (in_state right 0 2) no_formulas))) no_formulas))) (formula (all (formula (in_state left 0 1) (formula (in_state right 0 1) no_formulas))) no_formulas))

-- the same without Off2
abbrev narrow : Formula
narrow = any (formula (all (formula (in_state left 0 0) (formula (in_state right 0 0) no_formulas))) (formula (all (formula (in_state left 0 1) (formula (in_state right 0 1) no_formulas))) no_formulas))

-- they are bisimilar by the relation
pub accepted : IsEquivAnswer relation toggle double accept
accepted = (same_names toggle_states double_states, all_agree relation toggle_states double_states toggle_list double_list toggle_rows double_rows refl refl refl)

-- some reactions to a
toggle_off : ReactsCoded toggle (1 ∷ []) (true ∷ []) (false ∷ []) (2 ∷ [])
toggle_off = record { configuration = plain 0; is = (refl, tt); from = refl; next = plain 1; reacts = record { input = refl; emitted = false ∷ false ∷ []; step = transition 0 _ (false ∷ false ∷ []) no_inner refl refl (refl, refl) refl refl; outputs = refl }; to = refl }

toggle_on : ReactsCoded toggle (2 ∷ []) (true ∷ []) (true ∷ []) (1 ∷ [])
toggle_on = record { configuration = plain 1; is = (refl, tt); from = refl; next = plain 0; reacts = record { input = refl; emitted = false ∷ true ∷ []; step = transition 0 _ (false ∷ false ∷ []) no_inner refl refl (refl, refl) refl refl; outputs = refl }; to = refl }

double_on : ReactsCoded double (2 ∷ []) (true ∷ []) (true ∷ []) (3 ∷ [])
double_on = record { configuration = plain 1; is = (refl, tt); from = refl; next = plain 2; reacts = record { input = refl; emitted = false ∷ true ∷ []; step = transition 0 _ (false ∷ false ∷ []) no_inner refl refl (refl, refl) refl refl; outputs = refl }; to = refl }

leaves_at_on : LeavesRelation narrow toggle double (2 ∷ []) (2 ∷ []) (true ∷ [])
leaves_at_on = record { j = true ∷ []; o = true ∷ []; p = true ∷ []; m' = 1 ∷ []; n' = 3 ∷ []; react = record { relates = refl; same = λ name. refl; left = toggle_on; right = double_on }; unrelated = refl }

-- without Off2 the relation is left from On and On by a, and by nothing earlier
pub left_from_on : IsEquivAnswer narrow toggle double (leaves (2 ∷ []) (2 ∷ []) (true ∷ []))
left_from_on = (
  same_names toggle_states double_states,
  refl,
  no_outputs narrow toggle_states double_states toggle_list double_list toggle_rows double_rows refl,
  record { is = leaves_at_on; first = none_leaves_before narrow toggle_states double_states toggle_list double_list toggle_rows double_rows 2 2 true refl },
)

-- so to accept is no answer
pub not_accepted : IsEquivAnswer narrow toggle double accept → ⊥
not_accepted h =
    let l : LeavesRelation narrow toggle double (2 ∷ []) (2 ∷ []) (true ∷ []) = leaves_at_on in
    let stays = h.1.stays (2 ∷ []) (2 ∷ []) (true ∷ []) l.j l.o l.p l.m' l.n' l.react in
    let leaves = l.unrelated in
    cc (stays, leaves)

differ_at_off_on : OutputsDiffer always toggle toggle (1 ∷ []) (2 ∷ []) (true ∷ []) o_name
differ_at_off_on = record {
  j = true ∷ [];
  o = false ∷ [];
  p = true ∷ [];
  m' = 2 ∷ [];
  n' = 1 ∷ [];
  react = record { relates = refl; same = λ name. refl; left = toggle_off; right = toggle_on };
  place = 0;
  at = refl;
  differ = λ h. cc (h);
  first = λ k other below at. absurd (omega arith);
}

-- by `always` Off and On of the toggle itself are related, and differ on o when a comes
pub differ_on_o : IsEquivAnswer always toggle toggle (outputs (1 ∷ []) (2 ∷ []) (true ∷ []) o_name)
differ_on_o = (
  same_names toggle_states toggle_states,
  refl,
  record { is = (o_name, differ_at_off_on); first = no_outputs_before always toggle_states toggle_states toggle_list toggle_list toggle_rows toggle_rows 1 2 true refl },
  differ_at_off_on,
)

-- by `never` not even the initial memories are related
pub not_started : IsEquivAnswer never toggle toggle start
not_started = (same_names toggle_states toggle_states, λ h. cc (h))

-- the output p is foreign to the toggle
abbrev wider : PlainModule
wider = record { process = toggle.process; inputs = toggle.inputs; outputs = o_name ∷ (112 ∷ []) ∷ []; locals = [] }

pub foreign_p : IsEquivAnswer always toggle wider (interfaces (112 ∷ []))
foreign_p = record { place = 4; at = refl; foreign = refl; first = before }
  where
    before : (k : ℕ) (other : Spelled) → k < 4 → slice_get (all_names toggle wider) k ≡ Some other → is_shared toggle wider other ≡ true
    before zero other b h = let e : 97 ∷ [] ≡ other = cc in ap (is_shared toggle wider) (sym e)
    before (suc zero) other b h = let e : o_name ≡ other = cc in ap (is_shared toggle wider) (sym e)
    before (suc (suc zero)) other b h = let e : 97 ∷ [] ≡ other = cc in ap (is_shared toggle wider) (sym e)
    before (suc (suc (suc zero))) other b h = let e : o_name ≡ other = cc in ap (is_shared toggle wider) (sym e)
    before (suc (suc (suc (suc k)))) other b h = absurd (omega arith)

-- two digits for three codes
pub double_digits : widths_of (layout_of double.process) ≡ 2 ∷ []
double_digits = refl

-- codes 2 and 3, and then the input
pub a_point : point (2 ∷ []) (3 ∷ []) (2 ∷ []) (3 ∷ []) (true ∷ []) ≡ true ∷ false ∷ false ∷ true ∷ true ∷ true ∷ []
a_point = refl
