-- What is frozen adds nothing to the number of nodes: a small module, for which another system with the same reactions could count otherwise.
use Rattle.std.proofs.Common.{◌≡◌, ◌↔◌, ℕ, zero, suc, ◌+◌, ◌<◌, List, [], ◌∷◌, ◌++◌, Some, None, Bool, true, false, length, drop, refl, sym, ap, ◌∙◌, inl, inr, subst, arith}
use Rattle.std.specs.List.{slice_get}
use Rattle.argos_base.specs.Orders.{IsEarlier, digits}
use Rattle.argos_base.specs.SignalSets.{SignalSet, has, empty}
use Rattle.argos_core.specs.Codes.{IsStructural}
use Rattle.argos_core.specs.Configurations.{IsConfiguration}
use Rattle.argos_core.specs.Layouts.{layout_of}
use Rattle.argos_core.specs.Process.{present, Process, automaton, local, freeze, no_states, state, no_body, Configuration, at, beside, no_inner, inner, PlainModule}
use Rattle.argos_core.specs.Step.{hold}
use Rattle.cycle_solve.specs.LeastFunctions.{IsInLeast, AreLeastFunctions}
use Rattle.dd_core.specs.Functions.{Function, constant}
use Rattle.eqn_completion.specs.Binary.{digits_in, FitsIn}
use Rattle.eqn_dd.specs.Laws.{row_of}
use Rattle.eqn_dd.specs.Structural.{widths_of}
use Rattle.eqn_scheme.specs.LocalSets.{ProgramChooses}
use Rattle.eqn_scheme.specs.Settled.{Settles}
use Rattle.eqn_verdict.specs.SolvedNodes.{IsConstant, IsCofactorOfSome}
use Rattle.argos_compile.specs.Accepting.{HaveLocalNodes}

-- input 0 freezes an automaton with one state, in which local 1 emits itself
abbrev echo : Process
echo = automaton (state (record { name = []; transitions = record { guard = present 1; outs = 1 ∷ []; target = 0 } ∷ []; timeout = None }) no_body no_states) 0

abbrev frozen : PlainModule
frozen = record { process = local (1 ∷ []) (freeze 0 echo); inputs = [] ∷ []; outputs = []; locals = [] ∷ [] }

-- always it can react without the local
without_local : (c : Configuration) (i : SignalSet) → IsConfiguration frozen.process c → length i ≡ 1 → Settles frozen c i (empty 2)
without_local (at zero e no_inner) (true ∷ []) is sized = ([], (at 0 e no_inner, record { input = refl; emitted = empty 2; step = (empty 2, empty 2, inl (refl, refl, refl, refl), refl, refl); outputs = refl }))
without_local (at zero e no_inner) (false ∷ []) is sized = ([], (at 0 e no_inner, record { input = refl; emitted = empty 2; step = (empty 2, empty 2, inr (refl, hold no_inner (refl, tt) tt (refl, refl, refl) refl), refl, refl); outputs = refl }))
without_local (at zero e no_inner) [] is sized = absurd (omega arith)
without_local (at zero e no_inner) (a ∷ b ∷ i) is sized = absurd (omega arith)
without_local (at zero e (inner c)) i is sized = absurd is.1
without_local (at (suc q) e b) i is sized = absurd is
without_local (beside cs) i is sized = absurd is

-- so the local is in no least set
never_least : (m : List ℕ) (i : SignalSet) → IsStructural frozen.process m → length i ≡ 1 → IsInLeast (ProgramChooses frozen (1 ∷ [])) 0 m i → ⊥
never_least m i t sized (least, (l, there)) =
    l.first (false ∷ []) (record { configuration = t.configuration; is = t.is; code = t.code; present = empty 2; settles = without_local t.configuration i t.is sized; chosen_is = refl }) (earlier least (has l.is.present 1) l.is.chosen_is there)
  where
    one : (b : Bool) → b ≡ true → IsEarlier (0 ∷ []) (digits (b ∷ []))
    one true h = inl (omega arith)
    one false h = cc

    earlier : (least : SignalSet) (b : Bool) → least ≡ b ∷ [] → has least 0 ≡ true → IsEarlier (digits (false ∷ [])) (digits least)
    earlier least b e h = subst (λ (x : SignalSet). IsEarlier (digits (false ∷ [])) (digits x)) (sym e) (one b (ap (λ (x : SignalSet). has x 0) (sym e) ∙ h))

none_left : {A : Type 0} (j : ℕ) (f : Function) → slice_get (constant false ∷ []) (suc j) ≡ Some f → A
none_left j f e = cc

only : (f : Function) → Some (constant false) ≡ Some f → f ≡ constant false
only f e = cc

least-functions : AreLeastFunctions (ProgramChooses frozen (1 ∷ [])) (IsStructural frozen.process) (widths_of (layout_of frozen.process)) 1 1 (constant false ∷ [])
least-functions = record { sized = refl; are = are }
  where
    are : (j : ℕ) (f : Function) (m : List ℕ) (i x : SignalSet) → slice_get (constant false ∷ []) j ≡ Some f → FitsIn (widths_of (layout_of frozen.process)) m → length i ≡ 1 → length x ≡ 1
        → (f (row_of (widths_of (layout_of frozen.process)) m i x) ≡ true) ↔ (IsStructural frozen.process m × IsInLeast (ProgramChooses frozen (1 ∷ [])) j m i)
    are (suc j) f m i x place fit is xs = none_left j f place
    are zero f m i x place fit is xs =
        let same = ap (λ (g : Function). g (row_of (widths_of (layout_of frozen.process)) m i x)) (only f place) in
        ((λ t. no (sym same ∙ t)), λ h. absurd (never_least m i h.0 is h.1))
      where
        no : {A : Type 0} → false ≡ true → A
        no e = cc

is_constant : (v : ℕ) (g : Function) → IsCofactorOfSome v (constant false ∷ []) g → IsConstant v g
is_constant v g (suc j, (f, (place, is))) = none_left j f place
is_constant v g (zero, (f, (place, is))) = (false, λ x sized. is.equal x sized ∙ ap (λ (h : Function). h (is.fixed ++ drop (length is.fixed) x)) (only f place))

nothing : {A : Type 0} (f : Function) → None ≡ Some f → A
nothing f e = cc

pub frozen_counts_none : HaveLocalNodes frozen (1 ∷ []) 0
frozen_counts_none = record {
  functions = constant false ∷ [];
  are = least-functions;
  nodes = record {
    nodes = [];
    are = record {
      each = λ j g place. nothing g place;
      different = λ j k g h first second same. nothing g first;
      all = λ g is other. absurd (other (is_constant (digits_in (widths_of (layout_of frozen.process)) + 1 + 1) g is));
    };
    counted = refl;
  };
}
