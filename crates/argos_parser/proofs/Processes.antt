-- Blocks and states that grow at their end, and how trees stand for processes.
use Rattle.std.proofs.Common.{◌≡◌, List, [], ◌∷◌, ◌++◌, drop, refl, true, Vec}
use Rattle.std.specs.Prelude.{codes, Option, Some, None}
use Rattle.std.specs.declared.alloc.Global.{Global}
use Rattle.argos_grammar.specs.Forms.{Mark, TransForm, TimedForm}
use Rattle.argos_tokens.specs.Tokens.{Token}
use Rattle.argos_grammar.specs.Runs.{begins_with}
use Rattle.argos_grammar.specs.Views.{process_of, state_of, block_of, states_of, body_of, mark_of, marks_of}
use Rattle.argos_grammar.specs.Grammar as grammar
use Rattle.argos_grammar.specs.declared.trees.Spot.{Spot}
use Rattle.argos_grammar.specs.declared.trees.ProcessTree.{ProcessTree}
use Rattle.argos_grammar.specs.declared.trees.ProcessTree.TheVariants as tree
use Rattle.argos_grammar.specs.declared.trees.StateTree.{StateTree}
use Rattle.argos_grammar.proofs.FirstWords.{first_spelled}
use Rattle.argos_parser.proofs.Pieces.{pieces}
use Rattle.argos_grammar.proofs.ProcessViews.{process_of-Automaton, process_of-Local, process_of-Freeze, process_of-Run}

pub block_one : (p : ProcessTree) (ts rest : List Token) → grammar.one_process (process_of p) ts rest → grammar.processes (block_of (p ∷ [])) ts rest
block_one p ts rest h = (rest, h, refl)

more_push : (ps : List ProcessTree) (p : ProcessTree) (ts us vs rest : List Token) → grammar.more_processes (block_of ps) ts us → grammar.word "||" us vs → grammar.one_process (process_of p) vs rest
    → grammar.more_processes (block_of (ps ++ p ∷ [])) ts rest
more_push [] p ts us vs rest e w h = (vs, (let k : grammar.word "||" ts vs = rw e w in k), (rest, h, refl))
more_push (q ∷ ps) p ts us vs rest e w h = (e.0, e.1, (e.2.0, e.2.1, more_push ps p e.2.0 us vs rest e.2.2 w h))

pub block_push : (ps : List ProcessTree) (p : ProcessTree) (ts us vs rest : List Token) → grammar.processes (block_of ps) ts us → begins_with (codes "||") us ≡ true → vs ≡ drop 1 us → grammar.one_process (process_of p) vs rest
    → grammar.processes (block_of (ps ++ p ∷ [])) ts rest
block_push [] p ts us vs rest e b d h = absurd e
block_push (q ∷ ps) p ts us vs rest e b d h = (e.0, e.1, more_push ps p e.0 us vs rest e.2 (first_spelled (codes "||") us vs b d) h)

pub states_one : (s : StateTree) (ts rest : List Token) → grammar.one_state (state_of s).head (grammar.body (state_of s).body) ts rest → grammar.states (states_of (s ∷ [])) ts rest
states_one s ts rest h = (rest, h, refl)

more_states_push : (ss : List StateTree) (s : StateTree) (ts us rest : List Token) → grammar.more_states (states_of ss) ts us → grammar.one_state (state_of s).head (grammar.body (state_of s).body) us rest
    → grammar.more_states (states_of (ss ++ s ∷ [])) ts rest
more_states_push [] s ts us rest e h = (rest, (let k : grammar.one_state (state_of s).head (grammar.body (state_of s).body) ts rest = rw e h in k), refl)
more_states_push (r ∷ ss) s ts us rest e h = (e.0, e.1, more_states_push ss s e.0 us rest e.2 h)

pub states_push : (ss : List StateTree) (s : StateTree) (ts us rest : List Token) → grammar.states (states_of ss) ts us → grammar.one_state (state_of s).head (grammar.body (state_of s).body) us rest
    → grammar.states (states_of (ss ++ s ∷ [])) ts rest
states_push [] s ts us rest e h = absurd e
states_push (r ∷ ss) s ts us rest e h = (e.0, e.1, more_states_push ss s e.0 us rest e.2 h)

pub braced_made : (P : grammar.Piece) (ts a b rest : List Token) → grammar.word "{" ts a → P a b → grammar.word "}" b rest → grammar.braced P ts rest
braced_made P ts a b rest p q r = (a, p, (b, q, r))

pub reactions_made : (xs : List TransForm) (t : Option TimedForm) (ts a b c rest : List Token) → grammar.word "{" ts a → grammar.each grammar.trans xs a b → grammar.timeout t b c → grammar.word "}" c rest → grammar.reactions xs t ts rest
reactions_made xs t ts a b c rest p q r s = (a, p, (c, (b, q, r), s))

pub inside_made : (i : Mark) (S : grammar.Piece) (ts a b c rest : List Token) → grammar.word "init" ts a → grammar.name i a b → grammar.word ";" b c → S c rest → grammar.inside i S ts rest
inside_made i S ts a b c rest p q r s = (a, p, (b, q, (c, r, s)))

pub automaton_made : (i : Spot) (ss : Vec StateTree Global) (ts a b c rest : List Token) → grammar.word "automaton" ts a → grammar.word "{" a b → grammar.inside (mark_of i) (grammar.states (states_of ss.items)) b c → grammar.word "}" c rest
    → grammar.one_process (process_of (tree.Automaton i ss)) ts rest
automaton_made i ss ts a b c rest p q r s = rw (process_of-Automaton i ss) (a, p, (b, q, (c, r, s)))

pub local_made : (ns : Vec Spot Global) (ps : Vec ProcessTree Global) (ts a b c rest : List Token) → grammar.word "local" ts a → grammar.names (marks_of ns.items) a b → grammar.word "in" b c → grammar.braced (grammar.processes (block_of ps.items)) c rest
    → grammar.one_process (process_of (tree.Local ns ps)) ts rest
local_made ns ps ts a b c rest p q r s = rw (process_of-Local ns ps) (a, p, (b, q, (c, r, s)))

pub freeze_made : (m : Spot) (ps : Vec ProcessTree Global) (ts a b c rest : List Token) → grammar.word "freeze" ts a → grammar.name (mark_of m) a b → grammar.word "in" b c → grammar.braced (grammar.processes (block_of ps.items)) c rest
    → grammar.one_process (process_of (tree.Freeze m ps)) ts rest
freeze_made m ps ts a b c rest p q r s = rw (process_of-Freeze m ps) (a, p, (b, q, (c, r, s)))

pub run_made : (m : Spot) (xs ys : Vec Spot Global) (ts a b rest : List Token) → grammar.word "run" ts a → grammar.name (mark_of m) a b → grammar.interface (marks_of xs.items) (marks_of ys.items) b rest
    → grammar.one_process (process_of (tree.Run m xs ys)) ts rest
run_made m xs ys ts a b rest p q r = rw (process_of-Run m xs ys) (a, p, (b, q, r))

pub body_none : (ts : List Token) → grammar.body (body_of None) ts ts
body_none ts = refl

pub body_some : (ps : Vec ProcessTree Global) (ts us rest : List Token) → begins_with (codes "body") ts ≡ true → us ≡ drop 1 ts → grammar.braced (grammar.processes (block_of ps.items)) us rest → grammar.body (body_of (Some ps)) ts rest
body_some ps ts us rest b d h = (us, first_spelled (codes "body") ts us b d, h)

pub ruleset processes = (pieces, block_one, block_push, states_one, states_push, braced_made, reactions_made, inside_made, automaton_made, local_made, freeze_made, run_made, body_none, body_some)
