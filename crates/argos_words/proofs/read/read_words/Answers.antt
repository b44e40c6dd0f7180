use Rattle.std.proofs.Common.{◌≡◌, ◌∷◌, length, map, string_bytes, sym, ap, subst, ◌∙◌}
use Rattle.std.specs.List.{between}
use Rattle.std.proofs.lemmas.Slice.{first_rest}
use Rattle.argos_words.specs.Words.{Words}
use Rattle.argos_words.specs.Views.{texts_of}
use Rattle.argos_words.specs.inner.Reading.{IsFound, NoneFits, OnUsage, options_of}
use Rattle.argos_words.proofs.ReadWords.{is_read, refused_read}
use Rattle.argos_words.proofs.read.read_words.Goals as goal

pub returns : goal.returns
returns c =
    let words = c.args.words.now in
    let command = c.command-item.result in
    let word = c.deref-3.result.now in
    let after : Words = map string_bytes (between 1 (length words) words) in
    let first : map string_bytes words ≡ word ∷ after =
    ap (map string_bytes) (first_rest words command c.in-len1-up.len_at_least) ∙ ap (λ w. w ∷ after) (ap string_bytes (sym c.command-item.is) ∙ sym c.deref-3.ensures) in
    let options : texts_of c.options_of.result.now ≡ options_of word = c.options_of.ensures ∙ ap options_of (c.deref-2.ensures ∙ sym c.deref-3.ensures) in
    let found : IsFound (options_of word) after c.in_ok-matches.matches = subst (λ names. IsFound names after c.in_ok-matches.matches) options c.in_ok-matches.ensures in
    is_read word (map string_bytes words) after c.in_ok-matches.matches c.read_command.result first found c.read_command.ensures

pub returns-in_err-matches : goal.returns-in_err-matches
returns-in_err-matches c =
    let words = c.args.words.now in
    let command = c.command-item.result in
    let word = c.deref-2.result.now in
    let after : Words = map string_bytes (between 1 (length words) words) in
    let first : map string_bytes words ≡ word ∷ after =
    ap (map string_bytes) (first_rest words command c.in-len1-up.len_at_least) ∙ ap (λ w. w ∷ after) (ap string_bytes (sym c.command-item.is) ∙ sym c.deref-2.ensures) in
    let e = c.in_err-matches.field-0.0 in
    let none : OnUsage e (NoneFits (options_of word) after) = subst (λ names. OnUsage e (NoneFits names after)) c.options_of.ensures c.in_err-matches.ensures in
    refused_read word (map string_bytes words) after e c.from_residual.result first c.from_residual.ensures.1 none
