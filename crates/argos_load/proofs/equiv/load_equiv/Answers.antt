use Rattle.std.proofs.Common.{[], ◌∷◌, ap, refl, ◌∙◌}
use Rattle.std.proofs.lemmas.Result.{err_from_is_err_and}
use Rattle.argos_base.specs.Shelves.{after_load}
use Rattle.argos_load.specs.Calls.{call}
use Rattle.argos_load.specs.EquivFiles.{EquivOf, AreGoodCompared, AreComparedOutOfNodes, CertFile, of_left, of_right}
use Rattle.argos_load.specs.Giving.{comparison_of, program_of}
use Rattle.argos_load.specs.Programs.{ProgramOf, IsOutOfNodes}
use Rattle.argos_load.specs.Stages.{gives, says}
use Rattle.argos_load.proofs.FileStages.{first_stops, same_files, stops_at}
use Rattle.bisim_formula.specs.Views.{formula_of}
use Rattle.argos_load.proofs.equiv.load_equiv.Goals as goal

pub returns-in_err-left-clause-compared : goal.returns-in_err-left-clause-compared
returns-in_err-left-clause-compared g c =
    let nodes = c.args.nodes in
    let l = c.args.left.now in
    let r = c.args.right.now in
    let t = c.args.cert.now in
    let shelf = call g.H.Shelf.told g.H.Shelf.faults c.args.shelf.now c.load_program.new.shelf in
    let failed = c.in_err-left.ensures {u = tt} in
    let p = err_from_is_err_and c.from_residual.result c.from_residual.ensures.1 in
    rw (p.1, p.2) (first_stops comparison_of program_of c.in_err-left.field-0.0 nodes l (r ∷ t ∷ []) shelf (ProgramOf 1) (IsOutOfNodes nodes) (λ files. EquivOf files l r t) (λ files. AreGoodCompared files l r t) (λ files. AreComparedOutOfNodes files l r t nodes)
    (λ files s h. (says s, h, refl)) (λ files. tt) (λ files arena h. record { judged = h.program; is = of_left h.program h.means; stopped = h.stopped }) failed.counted failed.program)

pub returns-in_err-left-clause-loaded : goal.returns-in_err-left-clause-loaded
returns-in_err-left-clause-loaded g c = (1, (c.in_err-left.ensures {u = tt}).counted)

pub returns-in_err-right-clause-compared : goal.returns-in_err-right-clause-compared
returns-in_err-right-clause-compared g c =
    let told = g.H.Shelf.told in
    let faults = g.H.Shelf.faults in
    let nodes = c.args.nodes in
    let l = c.args.left.now in
    let r = c.args.right.now in
    let t = c.args.cert.now in
    let first = c.in_ok-left.ensures {u = tt} in
    let P = program_of c.in_ok-left.left in
    let failed = c.in_err-right.ensures {u = tt} in
    let p = err_from_is_err_and c.from_residual-in_err-right.result c.from_residual-in_err-right.ensures.1 in
    rw (p.1, p.2) (stops_at nodes 1 2 (l ∷ r ∷ t ∷ []) r (told c.args.shelf.now) (told c.load_program.new.shelf) (told c.load_program-2.new.shelf) (faults c.args.shelf.now) (faults c.load_program.new.shelf) (faults c.load_program-2.new.shelf)
    refl refl first.counted first.still failed.counted comparison_of program_of c.in_err-right.field-0.0 (ProgramOf 2) (IsOutOfNodes nodes) (λ files. EquivOf files l r t) (λ files. AreGoodCompared files l r t) (λ files. AreComparedOutOfNodes files l r t nodes)
    (λ f is s h. (gives P, first.program f is, (says s, h, refl)))
    (λ f is. (P, first.program f is))
    (λ f is arena h. record { judged = h.program; is = of_right P h.program (first.program f is) h.means; stopped = h.stopped })
    failed.program)

pub returns-in_err-right-clause-loaded : goal.returns-in_err-right-clause-loaded
returns-in_err-right-clause-loaded g c = (2, (c.in_err-right.ensures {u = tt}).counted ∙ ap after_load (c.in_ok-left.ensures {u = tt}).counted)

pub returns-in_err-cert-clause-compared : goal.returns-in_err-cert-clause-compared
returns-in_err-cert-clause-compared g c =
    let told = g.H.Shelf.told in
    let faults = g.H.Shelf.faults in
    let nodes = c.args.nodes in
    let l = c.args.left.now in
    let r = c.args.right.now in
    let t = c.args.cert.now in
    let first = c.in_ok-left.ensures {u = tt} in
    let next = c.in_ok-right.ensures {u = tt} in
    let P = program_of c.in_ok-left.left in
    let Q = program_of c.in_ok-right.right in
    let failed = c.in_err-cert.ensures {u = tt} in
    let p = err_from_is_err_and c.from_residual-in_err-cert.result c.from_residual-in_err-cert.ensures.1 in
    rw (p.1, p.2) (stops_at nodes 2 3 (l ∷ r ∷ t ∷ []) t (told c.args.shelf.now) (told c.load_program-2.new.shelf) (told c.load_cert.new.shelf) (faults c.args.shelf.now) (faults c.load_program-2.new.shelf) (faults c.load_cert.new.shelf)
    refl refl (next.counted ∙ ap after_load first.counted) (next.still ∙ first.still) failed.counted comparison_of formula_of c.in_err-cert.field-0.0 (CertFile 3 P Q) (λ _ _. ⊥) (λ files. EquivOf files l r t) (λ files. AreGoodCompared files l r t)
    (λ files. AreComparedOutOfNodes files l r t nodes)
    (λ f is s h. let same = same_files 1 (told c.args.shelf.now) (told c.load_program.new.shelf) f first.counted is in (gives P, first.program f is, (gives Q, next.program (record f { loads = same.0 }) same.1, (says s, h, refl))))
    (λ f is. let same = same_files 1 (told c.args.shelf.now) (told c.load_program.new.shelf) f first.counted is in (P, Q, first.program f is, next.program (record f { loads = same.0 }) same.1))
    (λ f is arena h. absurd h)
    (failed.cert nodes))

pub returns-in_err-cert-clause-loaded : goal.returns-in_err-cert-clause-loaded
returns-in_err-cert-clause-loaded g c = (3, (c.in_err-cert.ensures {u = tt}).counted ∙ ap after_load ((c.in_ok-right.ensures {u = tt}).counted ∙ ap after_load (c.in_ok-left.ensures {u = tt}).counted))

pub returns-clause-compared : goal.returns-clause-compared
returns-clause-compared g c = λ f is.
    let told = g.H.Shelf.told in
    let first = c.in_ok-left.ensures {u = tt} in
    let next = c.in_ok-right.ensures {u = tt} in
    let last = c.in_ok-cert.ensures {u = tt} in
    let one = same_files 1 (told c.args.shelf.now) (told c.load_program.new.shelf) f first.counted is in
    let two = same_files 2 (told c.args.shelf.now) (told c.load_program-2.new.shelf) f (next.counted ∙ ap after_load first.counted) is in
    let P = program_of c.in_ok-left.left in
    let Q = program_of c.in_ok-right.right in
    (gives P, first.program f is, (gives Q, next.program (record f { loads = one.0 }) one.1, (gives (formula_of c.in_ok-cert.cert), last.cert c.args.nodes (record f { loads = two.0 }) two.1, refl)))

pub returns-clause-loaded : goal.returns-clause-loaded
returns-clause-loaded g c = (3, (c.in_ok-cert.ensures {u = tt}).counted ∙ ap after_load ((c.in_ok-right.ensures {u = tt}).counted ∙ ap after_load (c.in_ok-left.ensures {u = tt}).counted))
