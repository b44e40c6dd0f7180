use Rattle.std.proofs.Common.{◌≡◌, ℕ, ◌<◌, ◌∷◌, [], ◌++◌, List, Bool, true, false, ◌&&◌, not, cond, length, map, get_or, ap, sym, ◌∙◌, subst, append_assoc, arith}
use Rattle.std.proofs.lemmas.List.{length-map, map-append}
use Rattle.argos_base.specs.SignalSets.{has}
use Rattle.eqn_core.specs.Equations.{Line, bit_count, word_count, registers}
use Rattle.eqn_core.specs.Views.{line_of, equations_from}
use Rattle.eqn_completion.specs.Moving.{Tables, line_at, moved_line, moved_lines, tables_after}
use Rattle.eqn_sort.specs.Numbers.{numbers_from}
use Rattle.eqn_sort.specs.inner.Own.{defines_word, with_number}
use Rattle.eqn_sort.proofs.Steps.{given_test, below_there, own-sized, own-read, line-read, number-inside, line-inside, skip-lines, skip-tables, take-lines, take-tables}
use Rattle.eqn_sort.proofs.moving.move_place.Goals as goal

pub bounds-numbers-place : goal.bounds-numbers-place
bounds-numbers-place c =
    let E = equations_from c.args.system.now in
    omega (arith, c.requires.place, ap length c.requires.numbers, own-sized E.inputs (registers E) E.lines, length-map c.args.system.now.lines.items line_of)

pub is_given-requires : goal.is_given-requires
is_given-requires c = λ e.
    let E = equations_from c.args.system.now in
    let p = c.args.place in
    let inside : p < length E.lines = omega (arith, c.requires.place, length-map c.args.system.now.lines.items line_of) in
    let below = number-inside E p (get_or c.args.numbers.now p 0) (line_of c.index-line.result.now) inside (own-read E c.args.numbers.now p c.requires.numbers inside) (line-read c.args.system.now.lines.items p c.index-line.result.now c.requires.place c.index-line.ensures) in
    let bit : get_or c.args.numbers.now p 0 < bit_count E = subst (λ (b : Bool). get_or c.args.numbers.now p 0 < cond b (word_count E) (bit_count E)) e below in
    omega (arith, bit, c.requires.given)

pub returns-then-is_given-clause-lines : goal.returns-then-is_given-clause-lines
returns-then-is_given-clause-lines c = λ cyclic later h.
    let E = equations_from c.args.system.now in
    let p = c.args.place in
    let inside : p < length E.lines = omega (arith, c.requires.place, length-map c.args.system.now.lines.items line_of) in
    let is : (not (defines_word (line_at E p)) && has c.args.given.now (get_or c.args.numbers.now p 0)) ≡ true = given_test _ (line_of c.index-line.result.now) (line_at E p) (has c.args.given.now (get_or c.args.numbers.now p 0)) (sym c.is_given.ensures ∙ c.if-is_given.true) (line-read c.args.system.now.lines.items p c.index-line.result.now c.requires.place c.index-line.ensures) in
    ap (λ (ls : List Line). map line_of c.args.lines.now.items ++ ls) (skip-lines E p (get_or c.args.numbers.now p 0) c.args.given.now (own-read E c.args.numbers.now p c.requires.numbers inside) is cyclic later (numbers_from c.args.tables.now) h)

pub returns-then-is_given-clause-numbers : goal.returns-then-is_given-clause-numbers
returns-then-is_given-clause-numbers c = λ cyclic later h.
    let E = equations_from c.args.system.now in
    let p = c.args.place in
    let inside : p < length E.lines = omega (arith, c.requires.place, length-map c.args.system.now.lines.items line_of) in
    let is : (not (defines_word (line_at E p)) && has c.args.given.now (get_or c.args.numbers.now p 0)) ≡ true = given_test _ (line_of c.index-line.result.now) (line_at E p) (has c.args.given.now (get_or c.args.numbers.now p 0)) (sym c.is_given.ensures ∙ c.if-is_given.true) (line-read c.args.system.now.lines.items p c.index-line.result.now c.requires.place c.index-line.ensures) in
    skip-tables E p (get_or c.args.numbers.now p 0) c.args.given.now (own-read E c.args.numbers.now p c.requires.numbers inside) is cyclic later (numbers_from c.args.tables.now) h

pub move_line-requires-clause-below : goal.move_line-requires-clause-below
move_line-requires-clause-below c =
    let E = equations_from c.args.system.now in
    let p = c.args.place in
    let inside : p < length E.lines = omega (arith, c.requires.place, length-map c.args.system.now.lines.items line_of) in
    below_there _ _ _ _ (line_of c.index-line.result.now) (line_at E p) (line-inside E p c.requires.orderable inside) c.requires.bits c.requires.words (line-read c.args.system.now.lines.items p c.index-line.result.now c.requires.place c.index-line.ensures)

pub move_line-requires-clause-number : goal.move_line-requires-clause-number
move_line-requires-clause-number c =
    let E = equations_from c.args.system.now in
    let p = c.args.place in
    let inside : p < length E.lines = omega (arith, c.requires.place, length-map c.args.system.now.lines.items line_of) in
    let line : Line = line_of c.index-line.result.now in
    let below = number-inside E p (get_or c.args.numbers.now p 0) line inside (own-read E c.args.numbers.now p c.requires.numbers inside) (line-read c.args.system.now.lines.items p c.index-line.result.now c.requires.place c.index-line.ensures) in
    subst (λ (k : ℕ). get_or c.args.numbers.now p 0 < cond (defines_word line) k (length c.args.tables.now.bits.items)) (sym c.requires.words) (subst (λ (k : ℕ). get_or c.args.numbers.now p 0 < cond (defines_word line) (word_count E) k) (sym c.requires.bits) below)

pub returns-clause-lines : goal.returns-clause-lines
returns-clause-lines c = λ cyclic later h.
    let E = equations_from c.args.system.now in
    let p = c.args.place in
    let t = numbers_from c.args.tables.now in
    let n = get_or c.args.numbers.now p 0 in
    let inside : p < length E.lines = omega (arith, c.requires.place, length-map c.args.system.now.lines.items line_of) in
    let there : line_of c.index-line.result.now ≡ line_at E p = line-read c.args.system.now.lines.items p c.index-line.result.now c.requires.place c.index-line.ensures in
    let is : (not (defines_word (line_at E p)) && has c.args.given.now n) ≡ false = given_test _ (line_of c.index-line.result.now) (line_at E p) (has c.args.given.now n) (sym c.is_given.ensures ∙ c.if-is_given.false) there in
    let rest = moved_lines E cyclic later (numbers_from c.move_line.new.tables) in
    let done = map line_of c.args.lines.now.items in
    ap (λ ls. map line_of ls ++ rest) c.in_ok-push.ensures.items
    ∙ ap (λ (ls : List Line). ls ++ rest) (map-append line_of c.args.lines.now.items (c.in_ok-moved.moved ∷ []))
    ∙ append_assoc done (line_of c.in_ok-moved.moved ∷ []) rest
    ∙ ap (λ (l : Line). done ++ (l ∷ rest)) (c.in_ok-moved.ensures.line ∙ ap (moved_line t.bits t.words) there)
    ∙ ap (λ (u : Tables). done ++ (moved_line t.bits t.words (line_at E p) ∷ moved_lines E cyclic later u)) (c.in_ok-moved.ensures.numbers ∙ ap (λ (l : Line). with_number n l t) there)
    ∙ ap (λ (ls : List Line). done ++ ls) (take-lines E p n c.args.given.now (own-read E c.args.numbers.now p c.requires.numbers inside) is cyclic later t h)

pub returns-clause-numbers : goal.returns-clause-numbers
returns-clause-numbers c = λ cyclic later h.
    let E = equations_from c.args.system.now in
    let p = c.args.place in
    let t = numbers_from c.args.tables.now in
    let n = get_or c.args.numbers.now p 0 in
    let inside : p < length E.lines = omega (arith, c.requires.place, length-map c.args.system.now.lines.items line_of) in
    let there : line_of c.index-line.result.now ≡ line_at E p = line-read c.args.system.now.lines.items p c.index-line.result.now c.requires.place c.index-line.ensures in
    let is : (not (defines_word (line_at E p)) && has c.args.given.now n) ≡ false = given_test _ (line_of c.index-line.result.now) (line_at E p) (has c.args.given.now n) (sym c.is_given.ensures ∙ c.if-is_given.false) there in
    ap (λ (u : Tables). tables_after E cyclic later u) (c.in_ok-moved.ensures.numbers ∙ ap (λ (l : Line). with_number n l t) there)
    ∙ take-tables E p n c.args.given.now (own-read E c.args.numbers.now p c.requires.numbers inside) is cyclic later t h
