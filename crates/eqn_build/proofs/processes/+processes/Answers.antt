use Rattle.std.proofs.Common.{arith, ap, sym, refl, rules, length, map, List, ◌∷◌, [], ◌++◌, ◌+◌, ◌∙◌, ◌≡◌}
use Rattle.std.proofs.lemmas.List.{map_push}
use Rattle.argos_core.proofs.Shaping.{next_part, next_state}
use Rattle.argos_core.specs.Views.{state_of, states_of}
use Rattle.eqn_core.specs.Equations as lines
use Rattle.eqn_core.specs.Equations.{Literal}
use Rattle.eqn_core.specs.Views.{line_of, literal_of}
use Rattle.eqn_scheme.specs.Scheme.{opposite, entering}
use Rattle.eqn_build.specs.inner.BuilderViews.{fire_bit_of, exit_bits_of, literals_at, placed_bodies, starts_of}
use Rattle.eqn_build.proofs.OwnStates.{automaton_lead, shaped_states, length-exits}
use Rattle.eqn_build.proofs.ProcessBuilding.{part_registers, part_bits, part_lines, part_fires, body_registers_step, body_bits_step, body_fires_step, body_lines_step, literals_at-read, automaton_lines}
use Rattle.eqn_build.proofs.processes.+processes.Goals as goal

pub put_parts-loop-part-preserved : goal.put_parts-loop-part-preserved
put_parts-loop-part-preserved t c =
    let ps = c.args.parts.now in
    let i = c.loop-part.part-index in
    let x = c.part-item.result in
    let below = c.loop-part-test.true in
    let is = c.part-item.is in
    let had = c.loop-part.invariant in
    let made = c.in_ok-next.ensures in
    record {
      shaped = (next_part ps i x below had.shaped).1;
      next = part_registers ps i x below is _ _ _ made.next had.next;
      bits = part_bits ps i x below is _ _ _ made.bits had.bits;
      one = made.one ∙ had.one;
      lines = part_lines ps i x below is _ _ _ _ _ _ _ _ _ (literal_of c.args.around.run) (literal_of c.args.around.start) (literal_of c.args.around.kill) made.one made.bits made.next made.lines had.lines;
      fires = part_fires ps i x below is _ _ _ _ _ made.bits made.fires had.fires;
    }

pub put_bodies-loop-number-preserved : goal.put_bodies-loop-number-preserved
put_bodies-loop-number-preserved t c =
    let ss = c.args.states.now in
    let i = c.loop-number.number in
    let x = c.index-states-number.result in
    let below = c.loop-number-test.true in
    let is = c.index-states-number.is in
    let had = c.loop-number.invariant in
    let made = c.in_ok-next.ensures in
    record {
      shaped = (next_state ss i _ x below had.shaped).more;
      next = body_registers_step ss i x below is _ _ _ made.next had.next;
      bits = body_bits_step ss i x below is _ _ _ made.bits had.bits;
      one = made.one ∙ had.one;
      lines = body_lines_step ss i x below is _ _ _ _ _ c.args.go _ _ _ _ (literals_at c.args.enters.now) (starts_of c.args.begin.state (literal_of c.args.begin.start)) c.args.exits.now c.index-exits-number.result _ _ (omega (arith, c.requires.exits)) c.index-exits-number.is
          (ap (map literal_of) c.deref.ensures ∙ literals_at-read c.args.enters.now i c.index-enters-number.result (omega (arith, c.requires.enters)) c.index-enters-number.is) c.start_at-start.ensures made.one made.bits made.next made.lines had.lines;
      fires = body_fires_step ss i x below is _ _ _ _ _ made.bits made.fires had.fires;
    }

pub put_automaton-entries-requires : goal.put_automaton-entries-requires
put_automaton-entries-requires t c = record { lead = automaton_lead c.args.states.now _ _ c.requires.shaped.2 (ap (map fire_bit_of) c.deref.ensures.value ∙ c.in_ok-own.ensures.fires) }

pub put_automaton-register_line-requires-clause-lead : goal.put_automaton-register_line-requires-clause-lead
put_automaton-register_line-requires-clause-lead t c = automaton_lead c.args.states.now _ _ c.requires.shaped.2 c.in_ok-own.ensures.fires

pub put_automaton-put_bodies-requires : goal.put_automaton-put_bodies-requires
put_automaton-put_bodies-requires t c = (
  search rules,
  (
    ap length c.deref-2.ensures.value ∙ length-exits c.args.states.now _ _ _ c.in_ok-own.ensures.exits,
    (
      ap length c.deref-3.ensures.value ∙ c.in_ok-enters.ensures.len,
      (shaped_states c.args.states.now c.requires.shaped.2, (omega (arith, c.requires.room, c.in_ok-own.ensures.bits, c.in_ok-go.ensures.bits), omega (arith, c.requires.numbered))),
    ),
  ),
)

pub put_automaton-returns-clause-lines : goal.put_automaton-returns-clause-lines
put_automaton-returns-clause-lines t c =
    let own = c.in_ok-own.ensures in
    let made = c.in_ok-put_bodies.ensures in
    let both : map literal_of c.in_ok-both.field-0.items ≡ opposite (literal_of c.args.around.start) ∷ opposite (literal_of c.args.around.kill) ∷ [] =
    c.in_ok-both.ensures ∙ ap (λ (l : Literal). l ∷ literal_of c.opposite-2.result ∷ []) c.opposite.ensures ∙ ap (λ (l : Literal). opposite (literal_of c.args.around.start) ∷ l ∷ []) c.opposite-2.ensures
    in
    automaton_lines (states_of (map state_of c.args.states.now)) c.args.init c.args.builder.now.one c.put_bit.new.builder.one c.put_states.new.builder.one c.args.builder.now.bits c.put_bit.new.builder.bits c.put_states.new.builder.bits c.args.register c.in_ok-go.go
    (literal_of c.args.around.run) (literal_of c.args.around.start) (literal_of c.args.around.kill) _ _ _ _ _ _ _ _ _ _ _
    c.in_ok-go.ensures.one own.one c.in_ok-go.ensures.bits own.bits c.in_ok-go.ensures.bit (ap lines.all both)
    own.fires own.ticks own.exits c.in_ok-line.ensures (λ q. c.in_ok-enters.ensures.each q ∙ ap (λ fs. entering (map fire_bit_of fs) q) c.deref.ensures.value)
    c.in_ok-go.ensures.lines own.lines (ap (map line_of) c.in_ok-push.ensures.items ∙ map_push line_of _ _)
    (made.lines ∙ ap (λ xs. map line_of c.push.new.self.items ++ placed_bodies (states_of (map state_of c.args.states.now)) c.put_states.new.builder.one c.in_ok-go.go (c.args.register + 1) (map exit_bits_of xs) (literals_at c.deref-3.result.now) (starts_of c.args.init (literal_of c.args.around.start)) c.put_states.new.builder.bits) c.deref-2.ensures.value
    ∙ ap (λ vs. map line_of c.push.new.self.items ++ placed_bodies (states_of (map state_of c.args.states.now)) c.put_states.new.builder.one c.in_ok-go.go (c.args.register + 1) (map exit_bits_of c.in_ok-own.own.exits.items) (literals_at vs) (starts_of c.args.init (literal_of c.args.around.start)) c.put_states.new.builder.bits) c.deref-3.ensures.value)
