use Rattle.std.proofs.Common.{refl, sym, ap, ◌∙◌, inl, inr, ◌++◌, ◌∷◌, []}
use Rattle.argos_base.specs.Names.{place_of}
use Rattle.eqn_file.proofs.NameSteps.{name_spelt, name_misspelt, unplaced, placed, found, absent, stood_in_before, stood_among, is_new}
use Rattle.eqn_file.proofs.parts.add_name.Goals as goal

pub returns-in_default : goal.returns-in_default
returns-in_default c = (refl, inl (name_misspelt c.args.line.bytes.now (c.in_default.ensures {u = tt}).spelled, refl))

pub returns-then-is_some : goal.returns-then-is_some
returns-then-is_some c =
    let h = c.in-Ok.ensures {u = tt} in
    (refl, inr (c.args.line.bytes.now, name_spelt c.args.line.bytes.now h.name, stood_in_before c.args.before.now c.args.names.now c.args.line.bytes.now (found (λ k. k.0) c.find.result c.args.before.now c.args.line.bytes.now c.find.ensures (sym c.is_some.ensures ∙ c.if-is_some.true))))

pub returns-in-Ok-add : goal.returns-in-Ok-add
returns-in-Ok-add c =
    let h = c.in-Ok.ensures {u = tt} in
    let k = c.in-Ok-add.ensures {u = tt} in (
      c.args.line.bytes.now,
      name_spelt c.args.line.bytes.now h.name,
      is_new c.args.before.now c.args.names.now c.args.line.bytes.now
          (absent (λ k. k.0) c.find.result c.args.before.now c.args.line.bytes.now c.find.ensures (sym c.is_some.ensures ∙ c.if-is_some.false))
          (unplaced c.args.names.now c.args.line.bytes.now (ap (place_of c.args.names.now) (sym h.spelled) ∙ k.0)),
      k.2 ∙ ap (λ z. c.args.names.now ++ z ∷ []) h.spelled,
    )

pub returns-in-Err-Duplicate : goal.returns-in-Err-Duplicate
returns-in-Err-Duplicate c =
    let h = c.in-Ok.ensures {u = tt} in
    let k = rw c.in-Err-Duplicate.field-0-is at (c.in-Err-Duplicate.ensures {u = tt}) in
    (refl, inr (c.args.line.bytes.now, name_spelt c.args.line.bytes.now h.name, stood_among c.args.before.now c.args.names.now c.args.line.bytes.now (placed c.args.names.now c.args.line.bytes.now c.in-Err-Duplicate.field-0-0.0 (ap (place_of c.args.names.now) (sym h.spelled) ∙ k.0))))
