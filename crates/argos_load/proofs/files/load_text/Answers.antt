use Rattle.std.proofs.Common.{Err, subst}
use Rattle.argos_base.specs.Shelves.{Answers}
use Rattle.argos_load.proofs.Loads.{loaded, loaded_long}
use Rattle.argos_load.proofs.files.load_text.Goals as goal

pub returns-in-Ok-clause-text : goal.returns-in-Ok-clause-text
returns-in-Ok-clause-text g c = λ nodes. let l = c.in-Ok.ensures {u = tt} in loaded c.args.number (g.H.Shelf.told c.args.shelf.now) c.args.name.now c.in-Ok.text l.answer l.caused

pub returns-in_ok-refusal-in-Err-TooLong-clause-text : goal.returns-in_ok-refusal-in-Err-TooLong-clause-text
returns-in_ok-refusal-in-Err-TooLong-clause-text g c = λ nodes.
    let told = g.H.Shelf.told c.args.shelf.now in
    let name = c.args.name.now in
    let l = c.in-Err-TooLong.ensures {u = tt} in
    loaded_long c.args.number told name c.in-Err-TooLong.field-0-0 c.in_ok-refusal-in-Err-TooLong.field-0.items (subst (λ e. Answers told name (Err e)) c.in-Err-TooLong.field-0-is l.answer) (c.in_ok-refusal-in-Err-TooLong.ensures {u = tt})
