-- The words of a line, joined one after the other.
use Rattle.std.proofs.Common.{◌≡◌, ℕ, zero, suc, ◌+◌, ◌<◌, List, [], ◌∷◌, ◌++◌, Bool, true, false, length, take, refl, sym, ap, ◌∙◌, append_assoc, add-one, arith}
use Rattle.std.specs.Prelude.{slice_index_or}
use Rattle.std.specs.List.{join_with_byte}
use Rattle.std.proofs.lemmas.Grind.{common_steps}
use Rattle.argos_base.specs.SignalSets.{SignalSet, has}
use Rattle.trace_io.specs.Lines.{present}
use Rattle.trace_io.specs.Parts.{spaced}

-- there is one or more
abbrev pub has_some : List (List ℕ) → Bool
has_some [] = false
has_some (w ∷ ws) = true

-- the word where it is present
abbrev pub this_word : Bool → List ℕ → List (List ℕ)
this_word true w = w ∷ []
this_word false w = []

-- the words before number k that are present
abbrev pub present_before : ℕ → SignalSet → List (List ℕ) → List (List ℕ)
present_before k s names = present (take k s) (take k names)

present-cons : (b : Bool) (s : SignalSet) (w : List ℕ) (names : List (List ℕ)) → present (b ∷ s) (w ∷ names) ≡ this_word b w ++ present s names
present-cons true s w names = refl
present-cons false s w names = refl

append-none : (xs : List (List ℕ)) → xs ++ [] ≡ xs
append-none xs = grind (arith, common_steps)

-- one word more
present_before-suc : (k : ℕ) (s : SignalSet) (names : List (List ℕ)) → length s ≡ length names → k < length s → present_before (suc k) s names ≡ present_before k s names ++ this_word (has s k) (slice_index_or names k [])
present_before-suc k [] names e h = absurd (omega arith)
present_before-suc k (b ∷ s) [] e h = absurd (omega arith)
present_before-suc zero (b ∷ s) (w ∷ names) e h = present-cons b [] w [] ∙ append-none (this_word b w)
present_before-suc (suc k) (b ∷ s) (w ∷ names) e h =
    present-cons b (take (suc k) s) w (take (suc k) names)
    ∙ ap (λ z. this_word b w ++ z) (present_before-suc k s names (omega arith) (omega arith))
    ∙ sym (append_assoc (this_word b w) (present_before k s names) (this_word (has s k) (slice_index_or names k [])))
    ∙ ap (λ z. z ++ this_word (has s k) (slice_index_or names k [])) (sym (present-cons b (take k s) w (take k names)))

pub present_before-more : (k : ℕ) (s : SignalSet) (names : List (List ℕ)) → length s ≡ length names → k < length s → present_before (k + 1) s names ≡ present_before k s names ++ this_word (has s k) (slice_index_or names k [])
present_before-more k s names e h = ap (λ n. present_before n s names) (add-one k) ∙ present_before-suc k s names e h

-- one word more, joined
pub join-push : (ws : List (List ℕ)) (w : List ℕ) → join_with_byte 32 (ws ++ w ∷ []) ≡ join_with_byte 32 ws ++ spaced (has_some ws) w
join-push [] w = refl
join-push (v ∷ []) w = refl
join-push (v ∷ u ∷ ws) w = ap (λ z. v ++ 32 ∷ z) (join-push (u ∷ ws) w) ∙ sym (append_assoc v (32 ∷ join_with_byte 32 (u ∷ ws)) (32 ∷ w))

pub has_some-push : (ws : List (List ℕ)) (w : List ℕ) → has_some (ws ++ w ∷ []) ≡ true
has_some-push [] w = refl
has_some-push (v ∷ ws) w = refl

-- the line so far after one more number
pub line_more : (k : ℕ) (s : SignalSet) (names : List (List ℕ)) (line line' : List ℕ) (some : Bool) → length s ≡ length names → k < length s → has s k ≡ true
    → line ≡ join_with_byte 32 (present_before k s names) → some ≡ has_some (present_before k s names) → line' ≡ line ++ spaced some (slice_index_or names k [])
    → (line' ≡ join_with_byte 32 (present_before (k + 1) s names)) × (true ≡ has_some (present_before (k + 1) s names))
line_more k s names line line' some e h b lined somed put =
    let w = slice_index_or names k [] in
    let ws = present_before k s names in
    let more : present_before (k + 1) s names ≡ ws ++ w ∷ [] = present_before-more k s names e h ∙ ap (λ z. ws ++ this_word z w) b in (
      put ∙ ap (λ z. z ++ spaced some w) lined ∙ ap (λ z. join_with_byte 32 ws ++ spaced z w) somed ∙ sym (ap (join_with_byte 32) more ∙ join-push ws w),
      sym (ap has_some more ∙ has_some-push ws w),
    )

pub line_same : (k : ℕ) (s : SignalSet) (names : List (List ℕ)) → length s ≡ length names → k < length s → has s k ≡ false → present_before (k + 1) s names ≡ present_before k s names
line_same k s names e h b = present_before-more k s names e h ∙ ap (λ z. present_before k s names ++ this_word z (slice_index_or names k [])) b ∙ append-none (present_before k s names)

pub ruleset lines = (common_steps, line_more, line_same)
