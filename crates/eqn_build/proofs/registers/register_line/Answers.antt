use Rattle.std.proofs.Common.{arith, ap, sym, length, ◌∙◌, ◌≡◌}
use Rattle.eqn_core.specs.Views.{literal_of}
use Rattle.eqn_build.proofs.RegisterCases.{length-first_codes, lead_same, register_line-is}
use Rattle.eqn_build.proofs.registers.register_line.Goals as goal

pub register_cases-requires-clause-exists : goal.register_cases-requires-clause-exists
register_cases-requires-clause-exists c = let e = ap length (c.deref.ensures.value ∙ c.in_ok-firsts.ensures) ∙ length-first_codes c.args.states.now 1 in omega (arith, e)

pub register_cases-requires-clause-lead : goal.register_cases-requires-clause-lead
register_cases-requires-clause-lead c = lead_same _ _ _ (sym (ap length (c.deref.ensures.value ∙ c.in_ok-firsts.ensures) ∙ length-first_codes c.args.states.now 1)) c.requires.lead

pub returns : goal.returns
returns c = register_line-is c.args.states.now c.args.init c.args.register (literal_of c.args.around.start) (literal_of c.args.around.kill) _ _ c.deref.result.now _ c.requires.exists c.requires.lead (c.deref.ensures.value ∙ c.in_ok-firsts.ensures) c.in_ok-register_cases.ensures
