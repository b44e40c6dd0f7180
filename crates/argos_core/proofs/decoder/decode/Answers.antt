use Rattle.std.proofs.Common.{◌≡◌, length, ap, arith}
use Rattle.std.proofs.lemmas.Bool.Decides.{nat_tests}
use Rattle.argos_core.specs.Views.{process_of}
use Rattle.argos_core.proofs.Readings.{decoded, not_decoded, empty}
use Rattle.argos_core.proofs.decoder.decode.Goals as goal

pub returns-then-is_empty : goal.returns-then-is_empty
returns-then-is_empty c =
    let end : length c.process.new.self.rest.now ≡ 0 = grind (arith, nat_tests) in
    decoded (process_of c.args.prog.now) c.args.memory.now c.process.new.self.rest.now c.in_ok-found.found c.in_ok-found.ensures (empty c.process.new.self.rest.now end)

pub returns-else-is_empty : goal.returns-else-is_empty
returns-else-is_empty c =
    let more : ¬ (length c.process.new.self.rest.now ≡ 0) = grind (arith, nat_tests) in
    not_decoded (process_of c.args.prog.now) c.args.memory.now c.process.new.self.rest.now c.in_ok-found.found c.in_ok-found.ensures (λ none. more (ap length none))
