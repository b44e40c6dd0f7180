use Rattle.std.proofs.Common.{◌≡◌, ℕ, List, get_or, refl, ap, ◌∙◌}
use Rattle.std.specs.Vec.{with_items}
use Rattle.std.proofs.Math.Path.{fun_ext}
use Rattle.std.proofs.lemmas.List.{with_items_is}
use Rattle.eqn_completion.specs.Moving.{Tables}
use Rattle.eqn_sort.proofs.Entries.{same_tables}
use Rattle.eqn_sort.proofs.tables.Tables.with_given.Goals as goal

pub number_given-requires-clause-same : goal.number_given-requires-clause-same
number_given-requires-clause-same c = λ k. ap (λ (xs : List ℕ). get_or xs k k) c.deref_mut.ensures.value ∙ ap (λ (t : Tables). t.bits k) c.in_ok-tables.ensures.numbers

pub returns-clause-numbers : goal.returns-clause-numbers
returns-clause-numbers c =
    let old = c.in_ok-tables.tables in
    let written : (with_items old.bits c.number_given.new.table).items ≡ c.number_given.new.table = with_items_is old.bits c.number_given.new.table (c.number_given.auto.table ∙ c.deref_mut.ensures.len) in
    same_tables (λ (k : ℕ). get_or (with_items old.bits c.number_given.new.table).items k k) _ (λ (k : ℕ). get_or old.words.items k k) _ _ _ old.next_word _
    (fun_ext (λ k. ap (λ (xs : List ℕ). get_or xs k k) written ∙ c.number_given.ensures k))
    (ap (λ (t : Tables). t.words) c.in_ok-tables.ensures.numbers)
    refl
    (ap (λ (t : Tables). t.next_word) c.in_ok-tables.ensures.numbers)
