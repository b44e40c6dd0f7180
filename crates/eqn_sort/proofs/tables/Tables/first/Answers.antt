use Rattle.std.proofs.Common.{◌≡◌, ℕ, ◌+◌, ◌-◌, List, length, map, get_or, refl, ap, ◌∙◌, arith}
use Rattle.std.specs.List.{range_with_len}
use Rattle.std.proofs.lemmas.List.{length-map}
use Rattle.std.proofs.lemmas.List.FromFn.{length-range_with_len}
use Rattle.eqn_core.specs.Equations.{word_lines}
use Rattle.eqn_core.specs.Views.{line_of}
use Rattle.eqn_core.proofs.Walks.{bit_and_word_lines}
use Rattle.eqn_completion.specs.Moving.{Table}
use Rattle.eqn_sort.proofs.Entries.{itself, range-same, same_tables}
use Rattle.eqn_sort.proofs.tables.Tables.first.Goals as goal

below-same : (xs : List ℕ) (n : ℕ) → xs ≡ range_with_len 0 n → ◌≡◌ {A = Table} (λ k. get_or xs k k) itself
below-same xs n e = ap (λ (ys : List ℕ). (λ (k : ℕ). get_or ys k k)) e ∙ range-same n

pub returns-clause-numbers : goal.returns-clause-numbers
returns-clause-numbers c =
    same_tables _ _ _ _ _ _ _ _ (below-same _ _ c.in_ok-numbers_below.ensures) (below-same _ _ c.in_ok-numbers_below-2.ensures) refl (c.len-registers.ensures ∙ c.args.system.now.init.ok.0)

pub returns-clause-bits : goal.returns-clause-bits
returns-clause-bits c =
    let items = c.args.system.now.lines.items in
    let words : c.count_words-words.result ≡ word_lines (map line_of items) = c.count_words-words.ensures.count ∙ ap (λ ls. word_lines (map line_of ls)) c.deref.ensures.value in
    omega (arith, ap length c.in_ok-numbers_below.ensures, length-range_with_len 0 (c.args.system.now.inputs + (c.len.result - c.count_words-words.result)), c.len.ensures, words, bit_and_word_lines (map line_of items), length-map items line_of)

pub returns-clause-words : goal.returns-clause-words
returns-clause-words c =
    let items = c.args.system.now.lines.items in
    let words : c.count_words-words.result ≡ word_lines (map line_of items) = c.count_words-words.ensures.count ∙ ap (λ ls. word_lines (map line_of ls)) c.deref.ensures.value in
    omega (arith, ap length c.in_ok-numbers_below-2.ensures, length-range_with_len 0 (c.len-registers.result + c.count_words-words.result), c.len-registers.ensures, words)
