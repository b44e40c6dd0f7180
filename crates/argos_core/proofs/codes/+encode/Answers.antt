use Rattle.std.proofs.Common.{arith, ap, sym, append-nil, ◌∙◌, ◌⊎◌, inl, inr, ◌≡◌, ◌<◌, ◌++◌, length}
use Rattle.argos_core.specs.Views.{inner_of}
use denote.Param.Weighed.{at_most}
use Rattle.std.proofs.lemmas.Grind.{common_steps}
use Rattle.argos_core.proofs.Encoding.{state_exists, code_fits, body_shaped, body_fits, codes_end}
use Rattle.argos_core.proofs.codes.+encode.Goals as goal

pub encode_each-returns : goal.encode_each-returns
encode_each-returns t c =
    let end : (length c.loop-part.part-iterator.a.rest.now ≡ 0) ⊎ (length c.loop-part.part-iterator.b.rest.now ≡ 0) = elim c.in-None.ensures.steps [ inl h ↦ inl h.1.0 | inr h ↦ inr h.1.0 ] in
    let none = codes_end c.loop-part.part-iterator.a.rest.now c.loop-part.part-iterator.b.rest.now c.loop-part.invariant.fits end in
    sym (append-nil c.loop-part.codes.items) ∙ ap (λ l. c.loop-part.codes.items ++ l) (sym none) ∙ c.loop-part.invariant.codes

pub encode_states-prove-unreachable-requires : goal.encode_states-prove-unreachable-requires
encode_states-prove-unreachable-requires t c =
    let exists = state_exists c.args.states.now c.args.current c.args.elapsed (inner_of c.args.body.now) c.requires.fits in omega arith

pub encode_states-first_code-requires-clause-counted : goal.encode_states-first_code-requires-clause-counted
encode_states-first_code-requires-clause-counted t c = omega (arith, code_fits c.args.states.now c.args.current c.args.elapsed (inner_of c.args.body.now) c.requires.fits)

pub encode_states-overflow_add-first_code : goal.encode_states-overflow_add-first_code
encode_states-overflow_add-first_code t c =
    let fits = code_fits c.args.states.now c.args.current c.args.elapsed (inner_of c.args.body.now) c.requires.fits in
    grind (arith, common_steps)

pub encode_states-encode_body-requires : goal.encode_states-encode_body-requires
encode_states-encode_body-requires t c =
    let exists : c.args.current < length c.args.states.now = state_exists c.args.states.now c.args.current c.args.elapsed (inner_of c.args.body.now) c.requires.fits in (
      grind (arith, at_most),
      (
        body_shaped c.args.states.now _ c.args.current _ c.requires.shaped exists c.index-states-number.is,
        body_fits c.args.states.now c.args.current c.args.elapsed _ _ c.requires.fits c.index-states-number.is,
      ),
    )
