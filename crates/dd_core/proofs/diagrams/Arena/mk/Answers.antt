use Rattle.std.proofs.Common.{sym, ◌∙◌, subst}
use Rattle.std.proofs.lemmas.Bool.{eq-eqb, false≢true}
use Rattle.std.proofs.lemmas.Map.Views.{exact_unsigned_eq}
use Rattle.dd_core.specs.declared.nodes.Node.{Node}
use Rattle.dd_core.specs.Arenas.{ArenaView, IsArena}
use Rattle.dd_core.specs.inner.Adding.{IsFresh}
use Rattle.dd_core.proofs.Walks.{held_level}
use Rattle.dd_core.proofs.Making.{mk_equal, mk_found, mk_adds}
use Rattle.dd_core.proofs.diagrams.Arena.mk.Goals as goal

pub returns-then-eq-clause-made : goal.returns-then-eq-clause-made
returns-then-eq-clause-made c =
    let arena = c.args.self.now in
    let n : Node = record { variable = c.args.var; low = c.args.low; high = c.args.high } in
    mk_equal arena n (subst (λ (d : ArenaView). IsArena d) c.self.view_is c.self.invariant.valid) (held_level arena.variables arena.nodes c.args.var c.args.low.0 c.requires.low_later) (exact_unsigned_eq c.args.low.0 c.args.high.0 (sym c.eq.ensures ∙ c.if-eq.true))

pub returns-in-Some-clause-made : goal.returns-in-Some-clause-made
returns-in-Some-clause-made c =
    let n : Node = record { variable = c.args.var; low = c.args.low; high = c.args.high } in
    mk_found c.args.self.now n c.in-Some.f c.find.ensures.arena c.in-Some.ensures.found

pub returns-in-None-clause-made : goal.returns-in-None-clause-made
returns-in-None-clause-made c =
    let arena = c.args.self.now in
    let n : Node = record { variable = c.args.var; low = c.args.low; high = c.args.high } in
    let fresh : IsFresh arena.variables arena.nodes n = record {
      variable = c.requires.variable;
      different = λ same. false≢true (sym c.if-eq.false ∙ c.eq.ensures ∙ eq-eqb c.args.low.0 c.args.high.0 same);
      low_later = c.requires.low_later;
      high_later = c.requires.high_later;
      new = c.in-None.ensures.none;
    } in
    mk_adds arena c.add.new.self n c.add.result c.find.ensures.arena fresh c.add.ensures.ok c.add.ensures.err c.add.ensures.full
