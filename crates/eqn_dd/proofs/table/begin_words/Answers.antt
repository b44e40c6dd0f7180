use Rattle.std.proofs.Common.{List, map, length, sym, subst, arith}
use Rattle.std.proofs.lemmas.List.{length-map}
use Rattle.dd_core.specs.declared.nodes.NodeId.{NodeId}
use Rattle.eqn_dd.specs.Placed.{register_at}
use Rattle.eqn_dd.proofs.RegisterSteps.{map-push}
use Rattle.eqn_dd.proofs.Beginning.{WordsSoFar, words_begin, words_more, words_whole}
use Rattle.eqn_dd.proofs.table.begin_words.Goals as goal

pub fill-init : goal.fill-init
fill-init c = words_begin c.requires.room c.in_ok-words.ensures.denote

pub fill-preserved : goal.fill-preserved
fill-preserved c =
    subst (λ (l : List (List NodeId)). WordsSoFar c.register_words.new.arena (λ x. map (register_at x) c.args.regs.now) (length c.args.regs.now) c.args.count l) (sym (map-push _ _ _ _ c.in_ok-push.ensures.items))
    (words_more (omega (arith, c.fill-test.true, c.len.ensures, c.fill.words.ok.0, length-map c.fill.words.items (λ w. w.items))) ((c.in_ok-code_word.ensures c.register_words.new.arena c.in_ok-words.ensures.adds.arena).is_word) c.fill.invariant)

pub returns-clause-words : goal.returns-clause-words
returns-clause-words c = words_whole (omega (arith, c.fill-test.false, c.len.ensures, c.fill.words.ok.0, length-map c.fill.words.items (λ w. w.items))) c.fill.invariant
