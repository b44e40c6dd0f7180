use Rattle.std.proofs.Common.{◌≡◌, ℕ, ◌+◌, ◌<◌, Option, Some, None, List, [], ◌++◌, map, length, take, get_or, refl, sym, ap, ◌∙◌, subst, arith}
use Rattle.std.proofs.lemmas.Grind.{common_steps}
use Rattle.std.proofs.lemmas.Bool.Decides.{nat_tests}
use Rattle.std.proofs.lemmas.List.{length-map}
use Rattle.std.specs.List.{range_with_len}
use Rattle.argos_core.specs.Process as plain
use Rattle.argos_core.specs.Views as core
use Rattle.argos_core.specs.declared.prog.Prog.{Prog}
use Rattle.argos_core.specs.declared.prog.Prog.TheVariants as variant
use Rattle.argos_core.specs.declared.prog.Prog.TheOpen.{Auto-F}
use Rattle.argos_core.specs.declared.prog.Auto.{Auto, roll-Auto}
use Rattle.argos_core.specs.declared.prog.State.{State}
use Rattle.argos_grammar.specs.Views.{mark_of, marks_of}
use Rattle.argos_expansion.specs.Expansion.{Grown, visit, local_visit}
use Rattle.argos_expansion.specs.inner.Growing.{moment_of}
use Rattle.argos_expansion.specs.inner.Growth.{Moment, tally_of, HasGrown, IsStop, first_passed}
use Rattle.argos_expansion.specs.inner.Renaming.{signal_at, states_size}
use Rattle.argos_expansion.specs.inner.ShapeGrowth.{Growth, growth_at, use_growth, growth_of, growths_of, placed_signals, place_within, automaton_shape_visit, block_growth, rest_growth, states_growth, body_growth}
use Rattle.argos_expansion.specs.inner.Shapes.{BodyShape, block_shape, states_shape, component_shape}
use Rattle.argos_expansion.specs.declared.placed.PlacedProcess.{PlacedProcess}
use Rattle.argos_expansion.proofs.Growing.{HasVisited, over_grown, over_stops, alone_grown, bare_visit, has_visited, err_grows, stops_here}
use Rattle.argos_expansion.proofs.Nodes.{local_node, automaton_node, block_none, block_many}
use Rattle.argos_expansion.proofs.Parts.{processes_on, processes_stop, processes_end, states_on, states_stop, states_end}
use Rattle.argos_expansion.proofs.ProcessViews.{process_of-Auto, process_of-Par, process_of-Local, process_of-Freeze, automaton_of-roll, without_body}
use Rattle.argos_expansion.proofs.Used.{used_at, place_some, place_none}
use Rattle.argos_expansion.proofs.expander.Expander.+process.Goals as goal

-- processes one after another
pub processes-returns-in_err-process : goal.processes-returns-in_err-process
processes-returns-in_err-process t c =
    err_grows _ _ _ _ c.from_residual.result c.in_err-process.field-0.0 c.from_residual.ensures.1
    (processes_stop (growths_of c.args.earlier.now) (core.numbers c.args.signals.now) c.args.depth c.args.forms.now (moment_of c.args.self.now) _ c.loop-form.parts.items c.loop-form.form-index c.form-item.result (moment_of c.loop-form.self) c.form-item.is c.loop-form-test.true c.loop-form.invariant c.in_err-process.field-0.0 (c.in_err-process.ensures {u = tt}))

pub processes-loop-form-preserved : goal.processes-loop-form-preserved
processes-loop-form-preserved t c =
    processes_on (growths_of c.args.earlier.now) (core.numbers c.args.signals.now) c.args.depth c.args.forms.now (moment_of c.args.self.now) _ c.loop-form.parts.items c.loop-form.form-index c.form-item.result (moment_of c.loop-form.self) c.form-item.is c.loop-form-test.true c.loop-form.invariant
    (moment_of c.process.new.self) c.in_ok-process.field-0 c.push.new.self.items (c.in_ok-push.ensures {u = tt}).items (c.in_ok-process.ensures {u = tt})

pub processes-returns : goal.processes-returns
processes-returns t c = processes_end (growths_of c.args.earlier.now) (core.numbers c.args.signals.now) c.args.depth c.args.forms.now (moment_of c.args.self.now) _ c.loop-form.parts.items c.loop-form.form-index (moment_of c.loop-form.self) c.loop-form-test.false c.loop-form.invariant

-- states one after another
pub states-returns-in_err-state : goal.states-returns-in_err-state
states-returns-in_err-state t c =
    err_grows _ _ _ _ c.from_residual.result c.in_err-state.field-0.0 c.from_residual.ensures.1
    (states_stop (growths_of c.args.earlier.now) (core.numbers c.args.signals.now) c.args.depth c.args.forms.now (moment_of c.args.self.now) _ c.loop-form.states.items c.loop-form.form-index c.form-item.result (moment_of c.loop-form.self) c.form-item.is c.loop-form-test.true c.loop-form.invariant c.in_err-state.field-0.0 (c.in_err-state.ensures {u = tt}))

pub states-loop-form-preserved : goal.states-loop-form-preserved
states-loop-form-preserved t c =
    states_on (growths_of c.args.earlier.now) (core.numbers c.args.signals.now) c.args.depth c.args.forms.now (moment_of c.args.self.now) _ c.loop-form.states.items c.loop-form.form-index c.form-item.result (moment_of c.loop-form.self) c.form-item.is c.loop-form-test.true c.loop-form.invariant
    (moment_of c.state.new.self) c.in_ok-state.field-0 c.push.new.self.items (c.in_ok-push.ensures {u = tt}).items (c.in_ok-state.ensures {u = tt})

pub states-returns : goal.states-returns
states-returns t c = states_end (growths_of c.args.earlier.now) (core.numbers c.args.signals.now) c.args.depth c.args.forms.now (moment_of c.args.self.now) _ c.loop-form.states.items c.loop-form.form-index (moment_of c.loop-form.self) c.loop-form-test.false c.loop-form.invariant

-- a block
pub block-returns-in_default : goal.block-returns-in_default
block-returns-in_default t c =
    let none : length c.args.forms.now ≡ 0 = c.in_default.ensures.cases in
    let m = moment_of c.args.self.now in
    let same = block_none (growths_of c.args.earlier.now) (core.numbers c.args.signals.now) c.args.depth c.args.self.now.counts.signals c.args.forms.now none in
    subst (λ (g : Grown plain.Process). HasGrown g (core.process_of (variant.Par c.new.result)) m m) (sym same)
    (alone_grown (plain.parallel plain.no_processes) (core.process_of (variant.Par c.new.result)) m (process_of-Par c.new.result ∙ ap (λ ps. plain.parallel (core.processes_of (map core.process_of ps))) c.new.ensures.items))

pub block-returns-in_err-visit : goal.block-returns-in_err-visit
block-returns-in_err-visit t c =
    let a = c.in-Some.ensures.cases in
    let b = c.is_empty.ensures in
    let d = c.if-is_empty.false in
    let two : 1 < length c.args.forms.now = grind (arith, nat_tests) in
    let many = block_many (growths_of c.args.earlier.now) (core.numbers c.args.signals.now) c.args.depth c.args.self.now.counts.signals c.args.forms.now two in
    let v = c.in_err-visit.ensures {u = tt} in
    err_grows _ _ _ _ c.from_residual-in_err-visit.result c.in_err-visit.field-0.0 c.from_residual-in_err-visit.ensures.1
    (subst (λ (g : Grown plain.Process). IsStop (first_passed (tally_of c.args.self.now.counts) g.visits) c.in_err-visit.field-0.0) (sym many) (stops_here (tally_of c.args.self.now.counts) (visit c.args.depth 1) _ c.in_err-visit.field-0.0 v.limit))

pub block-returns-in_err-parts : goal.block-returns-in_err-parts
block-returns-in_err-parts t c =
    let a = c.in-Some.ensures.cases in
    let b = c.is_empty.ensures in
    let d = c.if-is_empty.false in
    let two : 1 < length c.args.forms.now = grind (arith, nat_tests) in
    let many = block_many (growths_of c.args.earlier.now) (core.numbers c.args.signals.now) c.args.depth c.args.self.now.counts.signals c.args.forms.now two in
    let v = c.in_ok-visit.ensures {u = tt} in
    let old = moment_of c.args.self.now in
    let mid : Moment = record { tally = tally_of c.visit.new.self; locals = c.args.self.now.locals.items } in
    let here : HasVisited (visit c.args.depth 1) [] old mid = bare_visit (visit c.args.depth 1) (visit c.args.depth 1) old mid refl v.limit v.counted refl refl in
    err_grows _ _ _ _ c.from_residual-in_err-parts.result c.in_err-parts.field-0.0 c.from_residual-in_err-parts.ensures.1
    (subst (λ (g : Grown plain.Process). IsStop (first_passed old.tally g.visits) c.in_err-parts.field-0.0) (sym many)
    (over_stops (visit c.args.depth 1) plain.parallel [] old mid here
    (λ n. rest_growth (growths_of c.args.earlier.now) (core.numbers c.args.signals.now) (c.args.depth + 1) n (block_shape c.args.forms.now)) c.args.self.now.counts.signals c.in_err-parts.field-0.0 (omega arith) (c.in_err-parts.ensures {u = tt})))

pub block-returns : goal.block-returns
block-returns t c =
    let a = c.in-Some.ensures.cases in
    let b = c.is_empty.ensures in
    let d = c.if-is_empty.false in
    let two : 1 < length c.args.forms.now = grind (arith, nat_tests) in
    let many = block_many (growths_of c.args.earlier.now) (core.numbers c.args.signals.now) c.args.depth c.args.self.now.counts.signals c.args.forms.now two in
    let v = c.in_ok-visit.ensures {u = tt} in
    let old = moment_of c.args.self.now in
    let new = moment_of c.processes.new.self in
    let mid : Moment = record { tally = tally_of c.visit.new.self; locals = c.args.self.now.locals.items } in
    let here : HasVisited (visit c.args.depth 1) [] old mid = bare_visit (visit c.args.depth 1) (visit c.args.depth 1) old mid refl v.limit v.counted refl refl in
    subst (λ (g : Grown plain.Process). HasGrown g (core.process_of (variant.Par c.in_ok-parts.parts)) old new) (sym many)
    (over_grown (visit c.args.depth 1) plain.parallel [] old mid here
    (λ n. rest_growth (growths_of c.args.earlier.now) (core.numbers c.args.signals.now) (c.args.depth + 1) n (block_shape c.args.forms.now)) c.args.self.now.counts.signals new (core.processes_of (map core.process_of c.in_ok-parts.parts.items)) (core.process_of (variant.Par c.in_ok-parts.parts)) (omega arith) (c.in_ok-parts.ensures {u = tt})
    (process_of-Par c.in_ok-parts.parts))

-- a process that a signal freezes
pub freeze-returns-in_err-block : goal.freeze-returns-in_err-block
freeze-returns-in_err-block t c =
    let v = c.in_ok-visit.ensures {u = tt} in
    let old = moment_of c.args.self.now in
    let mid : Moment = record { tally = tally_of c.visit.new.self; locals = c.args.self.now.locals.items } in
    let here : HasVisited (visit c.args.depth 1) [] old mid = bare_visit (visit c.args.depth 1) (visit c.args.depth 1) old mid refl v.limit v.counted refl refl in
    err_grows _ _ _ _ c.from_residual-in_err-block.result c.in_err-block.field-0.0 c.from_residual-in_err-block.ensures.1
    (over_stops (visit c.args.depth 1) (plain.freeze (signal_at (core.numbers c.args.signals.now) c.args.place.0)) [] old mid here
    (λ n. block_growth (growths_of c.args.earlier.now) (core.numbers c.args.signals.now) (c.args.depth + 1) n (block_shape c.args.forms.now)) c.args.self.now.counts.signals c.in_err-block.field-0.0 (omega arith) (c.in_err-block.ensures {u = tt}))

pub freeze-returns : goal.freeze-returns
freeze-returns t c =
    let v = c.in_ok-visit.ensures {u = tt} in
    let old = moment_of c.args.self.now in
    let mid : Moment = record { tally = tally_of c.visit.new.self; locals = c.args.self.now.locals.items } in
    let here : HasVisited (visit c.args.depth 1) [] old mid = bare_visit (visit c.args.depth 1) (visit c.args.depth 1) old mid refl v.limit v.counted refl refl in
    over_grown (visit c.args.depth 1) (plain.freeze (signal_at (core.numbers c.args.signals.now) c.args.place.0)) [] old mid here
    (λ n. block_growth (growths_of c.args.earlier.now) (core.numbers c.args.signals.now) (c.args.depth + 1) n (block_shape c.args.forms.now)) c.args.self.now.counts.signals (moment_of c.block.new.self) (core.process_of c.in_ok-block.block) _ (omega arith) (c.in_ok-block.ensures {u = tt})
    (process_of-Freeze c.signal_at-signal.result c.in_ok-block-2.block ∙ ap (λ n. plain.freeze n (core.process_of c.in_ok-block-2.block.value)) c.signal_at-signal.ensures ∙ ap (λ p. plain.freeze (signal_at (core.numbers c.args.signals.now) c.args.place.0) (core.process_of p)) (c.in_ok-block-2.ensures {u = tt}).ok)

-- a process with local signals
pub local-returns-in_err-block : goal.local-returns-in_err-block
local-returns-in_err-block t c =
    let v = c.in_ok-visit.ensures {u = tt} in
    let gs = growths_of c.args.earlier.now in
    let env = core.numbers c.args.signals.now in
    let ns = marks_of c.args.names.now in
    let block = block_shape c.args.forms.now in
    let first = c.args.self.now.counts.signals in
    let old = moment_of c.args.self.now in
    let mid : Moment = record { tally = tally_of c.visit.new.self; locals = c.add_names.new.names.items } in
    let count : length c.args.names.now ≡ length ns = sym (length-map c.args.names.now mark_of) in
    let size : c.in_ok-size.size ≡ 1 + length c.args.names.now = c.in_ok-size.ensures {u = tt} in
    let named : c.add_names.new.names.items ≡ c.args.self.now.locals.items ++ map (λ m. m.name) ns = c.in_ok-add_names.ensures {u = tt} in
    let here : HasVisited (local_visit c.args.depth ns) ns old mid = has_visited _ (local_visit c.args.depth ns) ns old mid (local_node c.args.depth ns (length c.args.names.now) c.in_ok-size.size count size) v.limit v.counted named refl in
    let own : core.numbers c.in_ok-own.own.items ≡ range_with_len first (length c.args.names.now) = c.in_ok-own.ensures {u = tt} in
    let inner : core.numbers c.deref-2.result.now ≡ env ++ range_with_len first (length ns) = grind (arith, common_steps) in
    let k : IsStop (first_passed mid.tally (block_growth gs (core.numbers c.deref-2.result.now) (c.args.depth + 1) c.visit.new.self.signals block).visits) c.in_err-block.field-0.0 = c.in_err-block.ensures {u = tt} in
    err_grows _ _ _ _ c.from_residual-in_err-block.result c.in_err-block.field-0.0 c.from_residual-in_err-block.ensures.1
    (over_stops (local_visit c.args.depth ns) (plain.local (range_with_len first (length ns))) ns old mid here
    (λ n. block_growth gs (env ++ range_with_len first (length ns)) (c.args.depth + 1) n block) (first + length ns) c.in_err-block.field-0.0 refl
    (subst (λ (es : List ℕ). IsStop (first_passed mid.tally (block_growth gs es (c.args.depth + 1) c.visit.new.self.signals block).visits) c.in_err-block.field-0.0) inner k))

pub local-returns : goal.local-returns
local-returns t c =
    let v = c.in_ok-visit.ensures {u = tt} in
    let gs = growths_of c.args.earlier.now in
    let env = core.numbers c.args.signals.now in
    let ns = marks_of c.args.names.now in
    let block = block_shape c.args.forms.now in
    let first = c.args.self.now.counts.signals in
    let old = moment_of c.args.self.now in
    let mid : Moment = record { tally = tally_of c.visit.new.self; locals = c.add_names.new.names.items } in
    let count : length c.args.names.now ≡ length ns = sym (length-map c.args.names.now mark_of) in
    let size : c.in_ok-size.size ≡ 1 + length c.args.names.now = c.in_ok-size.ensures {u = tt} in
    let named : c.add_names.new.names.items ≡ c.args.self.now.locals.items ++ map (λ m. m.name) ns = c.in_ok-add_names.ensures {u = tt} in
    let here : HasVisited (local_visit c.args.depth ns) ns old mid = has_visited _ (local_visit c.args.depth ns) ns old mid (local_node c.args.depth ns (length c.args.names.now) c.in_ok-size.size count size) v.limit v.counted named refl in
    let own : core.numbers c.in_ok-own.own.items ≡ range_with_len first (length c.args.names.now) = c.in_ok-own.ensures {u = tt} in
    let inner : core.numbers c.deref-2.result.now ≡ env ++ range_with_len first (length ns) = grind (arith, common_steps) in
    let new = moment_of c.block.new.self in
    let made = core.process_of c.in_ok-block.block in
    let k : HasGrown (block_growth gs (core.numbers c.deref-2.result.now) (c.args.depth + 1) c.visit.new.self.signals block) made mid new = c.in_ok-block.ensures {u = tt} in
    over_grown (local_visit c.args.depth ns) (plain.local (range_with_len first (length ns))) ns old mid here
    (λ n. block_growth gs (env ++ range_with_len first (length ns)) (c.args.depth + 1) n block) (first + length ns) new made (core.process_of (variant.Local c.in_ok-own.own c.in_ok-block-2.block)) refl
    (subst (λ (es : List ℕ). HasGrown (block_growth gs es (c.args.depth + 1) c.visit.new.self.signals block) made mid new) inner k)
    (process_of-Local c.in_ok-own.own c.in_ok-block-2.block
    ∙ ap (λ ss. plain.local ss (core.process_of c.in_ok-block-2.block.value)) (own ∙ ap (range_with_len first) count)
    ∙ ap (λ p. plain.local (range_with_len first (length ns)) (core.process_of p)) (c.in_ok-block-2.ensures {u = tt}).ok)

-- an automaton
pub automaton-returns-in_err-states : goal.automaton-returns-in_err-states
automaton-returns-in_err-states t c =
    let v = c.in_ok-visit.ensures {u = tt} in
    let gs = growths_of c.args.earlier.now in
    let env = core.numbers c.args.signals.now in
    let xs = states_shape c.args.forms.now in
    let old = moment_of c.args.self.now in
    let mid : Moment = record { tally = tally_of c.visit.new.self; locals = c.args.self.now.locals.items } in
    let size : c.in_ok-size.size ≡ 1 + states_size env xs = grind (arith, common_steps) in
    let here : HasVisited (automaton_shape_visit env c.args.depth c.args.codes xs) [] old mid = bare_visit _ (automaton_shape_visit env c.args.depth c.args.codes xs) old mid (automaton_node env c.args.depth c.args.codes xs c.in_ok-size.size size) v.limit v.counted refl refl in
    err_grows _ _ _ _ c.from_residual-in_err-states.result c.in_err-states.field-0.0 c.from_residual-in_err-states.ensures.1
    (over_stops (automaton_shape_visit env c.args.depth c.args.codes xs) (λ states. plain.automaton states c.args.init) [] old mid here
    (λ n. states_growth gs env (c.args.depth + 1) n xs) c.args.self.now.counts.signals c.in_err-states.field-0.0 (omega arith) (c.in_err-states.ensures {u = tt}))

pub automaton-returns : goal.automaton-returns
automaton-returns t c =
    let v = c.in_ok-visit.ensures {u = tt} in
    let gs = growths_of c.args.earlier.now in
    let env = core.numbers c.args.signals.now in
    let xs = states_shape c.args.forms.now in
    let old = moment_of c.args.self.now in
    let new = moment_of c.states.new.self in
    let mid : Moment = record { tally = tally_of c.visit.new.self; locals = c.args.self.now.locals.items } in
    let size : c.in_ok-size.size ≡ 1 + states_size env xs = grind (arith, common_steps) in
    let here : HasVisited (automaton_shape_visit env c.args.depth c.args.codes xs) [] old mid = bare_visit _ (automaton_shape_visit env c.args.depth c.args.codes xs) old mid (automaton_node env c.args.depth c.args.codes xs c.in_ok-size.size size) v.limit v.counted refl refl in
    let made = core.states_of (map core.state_of c.in_ok-states.states.items) in
    let x : Auto-F Prog Auto State = record { states = c.in_ok-states.states; init = c.in_ok-init.init } in
    over_grown (automaton_shape_visit env c.args.depth c.args.codes xs) (λ states. plain.automaton states c.args.init) [] old mid here
    (λ n. states_growth gs env (c.args.depth + 1) n xs) c.args.self.now.counts.signals new made (core.process_of (variant.Auto (roll-Auto x))) (omega arith) (c.in_ok-states.ensures {u = tt})
    (process_of-Auto (roll-Auto x) ∙ automaton_of-roll x ∙ ap (plain.automaton made) (c.in_ok-init.ensures {u = tt}))

-- the use of a component
pub run-returns-in_default : goal.run-returns-in_default
run-returns-in_default t c =
    let v = c.in_ok-visit.ensures {u = tt} in
    let env = core.numbers c.args.signals.now in
    let ps = core.numbers c.args.places.now in
    let gs = growths_of c.args.earlier.now in
    let old = moment_of c.args.self.now in
    let mid : Moment = record { tally = tally_of c.visit.new.self; locals = c.args.self.now.locals.items } in
    let here : HasVisited (visit c.args.depth 0) [] old mid = bare_visit (visit c.args.depth 0) (visit c.args.depth 0) old mid refl v.limit v.counted refl refl in
    let none : None ≡ place_within (length c.args.earlier.now) c.args.component =
    let e : c.within.result ≡ place_within (length c.args.earlier.now) c.args.component = c.within.ensures.place in
    let i : c.within.result ≡ None = c.in_default.is in
    sym i ∙ e in
    let par = core.process_of (variant.Par c.new.result) in
    over_grown (visit c.args.depth 0) (λ x. x) [] old mid here
    (λ n. use_growth (growth_at gs c.args.component) (map (signal_at env) ps) c.args.depth n) c.args.self.now.counts.signals mid par par (omega arith)
    (subst (λ (o : Option Growth). HasGrown (use_growth o (map (signal_at env) ps) c.args.depth mid.tally.signals) par mid mid) (sym (place_none c.args.earlier.now c.args.component none))
    (alone_grown (plain.parallel plain.no_processes) par mid (process_of-Par c.new.result ∙ ap (λ ps. plain.parallel (core.processes_of (map core.process_of ps))) c.new.ensures.items))) refl

pub run-returns-in_err-block : goal.run-returns-in_err-block
run-returns-in_err-block t c =
    let v = c.in_ok-visit.ensures {u = tt} in
    let env = core.numbers c.args.signals.now in
    let ps = core.numbers c.args.places.now in
    let cs = c.args.earlier.now in
    let k = c.in-Some.k in
    let x = c.index-earlier-k.result in
    let gs = growths_of (take k cs) in
    let ns = map (signal_at env) ps in
    let old = moment_of c.args.self.now in
    let mid : Moment = record { tally = tally_of c.visit.new.self; locals = c.args.self.now.locals.items } in
    let here : HasVisited (visit c.args.depth 0) [] old mid = bare_visit (visit c.args.depth 0) (visit c.args.depth 0) old mid refl v.limit v.counted refl refl in
    let some : Some k ≡ place_within (length cs) c.args.component =
    let e : c.within.result ≡ place_within (length cs) c.args.component = c.within.ensures.place in
    let i : c.within.result ≡ Some k = c.in-Some.is in
    sym i ∙ e in
    let at : x ≡ get_or cs k x = c.index-earlier-k.is in
    let low : k < length cs = grind (arith, common_steps) in
    let there : growth_at (growths_of cs) c.args.component ≡ Some (growth_of gs (component_shape x)) = ap (growth_at (growths_of cs)) (place_some c.args.component (length cs) k some) ∙ used_at cs k x low ∙ ap (λ y. Some (growth_of gs (component_shape y))) (sym at) in
    let inner : core.numbers c.deref.result.now ≡ placed_signals x.signals ns = grind (arith, common_steps) in
    let e = c.in_err-block.field-0.0 in
    let a : IsStop (first_passed mid.tally (block_growth gs (core.numbers c.deref.result.now) (c.args.depth + 1) c.visit.new.self.signals (block_shape c.deref-2.result.now)).visits) e = c.in_err-block.ensures {u = tt} in
    let h = subst (λ (ps : List PlacedProcess). IsStop (first_passed mid.tally (block_growth gs (core.numbers c.deref.result.now) (c.args.depth + 1) c.visit.new.self.signals (block_shape ps)).visits) e) c.deref-2.ensures.value a in
    err_grows _ _ _ _ c.from_residual-in_err-block.result e c.from_residual-in_err-block.ensures.1
    (over_stops (visit c.args.depth 0) (λ (p : plain.Process). p) [] old mid here (λ n. use_growth (growth_at (growths_of cs) c.args.component) ns c.args.depth n) c.args.self.now.counts.signals e (omega arith)
    (subst (λ (o : Option Growth). IsStop (first_passed mid.tally (use_growth o ns c.args.depth mid.tally.signals).visits) e) (sym there)
    (subst (λ (es : List ℕ). IsStop (first_passed mid.tally (block_growth gs es (c.args.depth + 1) mid.tally.signals (block_shape x.block.items)).visits) e) inner h)))

pub run-returns : goal.run-returns
run-returns t c =
    let v = c.in_ok-visit.ensures {u = tt} in
    let env = core.numbers c.args.signals.now in
    let ps = core.numbers c.args.places.now in
    let cs = c.args.earlier.now in
    let k = c.in-Some.k in
    let x = c.index-earlier-k.result in
    let gs = growths_of (take k cs) in
    let ns = map (signal_at env) ps in
    let old = moment_of c.args.self.now in
    let mid : Moment = record { tally = tally_of c.visit.new.self; locals = c.args.self.now.locals.items } in
    let here : HasVisited (visit c.args.depth 0) [] old mid = bare_visit (visit c.args.depth 0) (visit c.args.depth 0) old mid refl v.limit v.counted refl refl in
    let some : Some k ≡ place_within (length cs) c.args.component =
    let e : c.within.result ≡ place_within (length cs) c.args.component = c.within.ensures.place in
    let i : c.within.result ≡ Some k = c.in-Some.is in
    sym i ∙ e in
    let at : x ≡ get_or cs k x = c.index-earlier-k.is in
    let low : k < length cs = grind (arith, common_steps) in
    let there : growth_at (growths_of cs) c.args.component ≡ Some (growth_of gs (component_shape x)) = ap (growth_at (growths_of cs)) (place_some c.args.component (length cs) k some) ∙ used_at cs k x low ∙ ap (λ y. Some (growth_of gs (component_shape y))) (sym at) in
    let inner : core.numbers c.deref.result.now ≡ placed_signals x.signals ns = grind (arith, common_steps) in
    let new = moment_of c.block.new.self in
    let made = core.process_of c.in_ok-block.field-0 in
    let a : HasGrown (block_growth gs (core.numbers c.deref.result.now) (c.args.depth + 1) c.visit.new.self.signals (block_shape c.deref-2.result.now)) made mid new = c.in_ok-block.ensures {u = tt} in
    let h = subst (λ (ps : List PlacedProcess). HasGrown (block_growth gs (core.numbers c.deref.result.now) (c.args.depth + 1) c.visit.new.self.signals (block_shape ps)) made mid new) c.deref-2.ensures.value a in
    over_grown (visit c.args.depth 0) (λ p. p) [] old mid here (λ n. use_growth (growth_at (growths_of cs) c.args.component) ns c.args.depth n) c.args.self.now.counts.signals new made made (omega arith)
    (subst (λ (o : Option Growth). HasGrown (use_growth o ns c.args.depth mid.tally.signals) made mid new) (sym there)
    (subst (λ (es : List ℕ). HasGrown (block_growth gs es (c.args.depth + 1) mid.tally.signals (block_shape x.block.items)) made mid new) inner h)) refl

-- a state without a body
pub body-returns-in-None : goal.body-returns-in-None
body-returns-in-None t c =
    let m = moment_of c.args.self.now in
    subst (λ (b : BodyShape). HasGrown (body_growth (growths_of c.args.earlier.now) (core.numbers c.args.signals.now) c.args.depth c.args.self.now.counts.signals b) plain.no_body m m) (sym (without_body c.args.form.now c.in-None.is))
    (alone_grown plain.no_body plain.no_body m refl)
