-- The reader goes on line by line.
use Rattle.std.proofs.Common.{◌≡◌, ℕ, ◌+◌, ◌<◌, ◌≤◌, List, [], ◌∷◌, ◌++◌, true, false, ◌||◌, Some, None, IsTrue, Err, length, inl, inr, refl, sym, ap, ◌∙◌, subst, arith}
use Rattle.std.specs.Prelude.{nat_eq, nat_lt}
use Rattle.std.proofs.lemmas.Bool.Decides.{nat_tests}
use Rattle.argos_base.proofs.Bools.{and_first, and_second, or_cases}
use Rattle.line_format.specs.Lines.{IsCut, IsLine, IsAt, not_due}
use Rattle.line_format.proofs.Answering.{reading_steps}
use Rattle.line_format.proofs.LineLaws.{same_line}
use Rattle.line_format.proofs.Options.{bind, only_if, only_if_true}
use Rattle.line_format.proofs.ReaderSteps.{line_missing, at_the_end, behind_the_end}
use Rattle.c_step.specs.CStep.{CStat, CStep, Assigned, nothing_assigned, assigns, assigned_after, may_stand, may_follow}
use Rattle.c_step.specs.CFile.{CLine, line_text, CPart, CStage, is_due_at, is_finished, c_format, IsCText, CFault}
use Rattle.c_step.specs.Errors.{TellsFault}
use Rattle.c_step.specs.declared.errors.CError.{CError}
use Rattle.c_step.specs.declared.errors.CError.TheVariants.{NotSubset, OutOfMemory}
use Rattle.c_step.specs.declared.draft.Draft.{Draft}
use Rattle.c_step.specs.inner.Drafts.{stage_of, draft_step, draft_assigned, IsMoved, due_only, Moves}
use Rattle.c_step.specs.inner.LineReading.{read_part}
use Rattle.c_step.proofs.Below.{below, below_test}
use Rattle.c_step.proofs.CLines.{c_clear}
use Rattle.c_step.proofs.CTexts.{Reached, opened, in_inputs, in_outputs, in_init, in_codes, in_step, in_statements, in_cases, ended, all_reached, file_is_text, step_of}
use Rattle.c_step.proofs.StageReads.{IsGood, read_part_is, read_part_reads}
use Rattle.c_step.proofs.StayWithin.{Exist, one_more_exists}

-- what may be read exists, wherever statements are due
exist_after : (s : CStep) (a : Assigned) (xs : List CStat) → Exist s a → IsTrue (may_follow s a xs) → Exist s (assigned_after a xs)
exist_after s a [] h e = h
exist_after s a (x ∷ xs) h e = exist_after s (assigns a x) xs (one_more_exists s a x h (and_first (may_stand s a x) _ e)) (and_second (may_stand s a x) _ e)

exist_start : (s : CStep) → length s.initial ≤ s.words → Exist s nothing_assigned
exist_start s room = record { bits = λ k t. cc t; words = λ k t. register k t }
  where
    register : (k : ℕ) → IsTrue (nat_lt k (length s.initial) || false) → IsTrue (nat_lt k s.words)
    register k t = below_test k s.words (let l : k < length s.initial = below k (length s.initial) (elim (or_cases (nat_lt k (length s.initial)) false t) [ inl y ↦ y | inr y ↦ cc y ]) in omega arith)

abbrev GoodAt : CStage → Type 0
GoodAt t = IsGood t.due t.step t.assigned

good : (front : List CLine) (t : CStage) → Reached front t → GoodAt t
good front t (opened e f) = subst GoodAt (sym f) tt
good front t (in_inputs ins names e f) = subst GoodAt (sym f) tt
good front t (in_outputs ins outs names e f) = subst GoodAt (sym f) tt
good front t (in_init ins outs n m names sizes e f) = subst GoodAt (sym f) tt
good front t (in_codes ins outs n m init names sizes e f) = subst GoodAt (sym f) tt
good front t (in_step ins outs n m init names sizes some e f) = subst GoodAt (sym f) tt
good front t (in_statements ins outs n m init xs names sizes some stands e f) =
    subst GoodAt (sym f) (exist_after (step_of ins outs n m init xs) nothing_assigned xs (exist_start (step_of ins outs n m init xs) sizes.room) stands)
good front t (in_cases ins outs n m init xs k c cs names sizes some stands room cases e f) =
    subst GoodAt (sym f) (exist_after (step_of ins outs n m init xs) nothing_assigned xs (exist_start (step_of ins outs n m init xs) sizes.room) stands, room)
good front t (ended ins outs n m init xs names sizes some stands set e f) = subst GoodAt (sym f) tt

abbrev pub StandsAt : List ℕ → ℕ → CStage → List ℕ → Type 0
StandsAt whole number t rest = IsAt c_format whole number t rest

good_at : (whole : List ℕ) (number : ℕ) (t : CStage) (rest : List ℕ) → StandsAt whole number t rest → GoodAt t
good_at whole number t rest h = good ([] ++ h.lines) t (all_reached [] h.lines c_format.start t (opened refl refl) h.leads)

-- a line is taken
pub goes_on : (whole : List ℕ) (number : ℕ) (old new : Draft) (rest line more : List ℕ) → StandsAt whole number (stage_of old) rest → IsCut 10 rest line more → IsMoved (stage_of old).due (read_part (stage_of old).due (draft_step old) (draft_assigned old) line) old new
    → StandsAt whole (number + 1) (stage_of new) more
goes_on whole number old new rest line more h cut m =
    let text : line ≡ line_text m.line = read_part_is (stage_of old).due (draft_step old) (draft_assigned old) line m.line m.says in
    subst (λ (t : CStage). StandsAt whole (number + 1) t more) (sym m.stage) ((reading_steps c_format).goes_on whole number (stage_of old) rest m.line more h m.due refl (cut.text ∙ ap (λ z. z ++ 10 ∷ more) text))

-- no line is left
pub no_line : (whole : List ℕ) (number : ℕ) (t : CStage) (rest : List ℕ) (e : CError) → StandsAt whole number t rest → IsLine rest → is_finished t.due ≡ false → e ≡ NotSubset number → TellsFault whole e
no_line whole number t rest e h inner ongoing k = subst (TellsFault whole) (sym k) (line_missing c_format whole number t rest h inner ongoing)

-- a line isn't due
pub refused : (whole : List ℕ) (number at : ℕ) (old new : Draft) (rest line more : List ℕ) (e : CError) → StandsAt whole number (stage_of old) rest → IsCut 10 rest line more → is_finished (stage_of old).due ≡ false → at ≡ number
    → Moves (stage_of old).due (read_part (stage_of old).due (draft_step old) (draft_assigned old) line) at old new (Err e) → TellsFault whole e
refused whole number at old new rest line more OutOfMemory h cut ongoing a m = tt
refused whole number at old new rest line more (NotSubset n) h cut ongoing a m =
    let p : CPart = (stage_of old).due in
    let s : CStep = draft_step old in
    let d : Assigned = draft_assigned old in
    let fine : IsGood p s d = good_at whole number (stage_of old) rest h in
    subst (λ (k : ℕ). CFault whole k) (sym (m.0 ∙ a))
    ((reading_steps c_format).fails whole number (stage_of old) rest tt h
    (not_due ongoing (λ c more' due e. never p s d line c fine due m.1 (same_line line (line_text c) more more' cut.before (c_clear.inner (stage_of old) c due) (sym cut.text ∙ e)).0) refl))
  where
    never : (p : CPart) (s : CStep) (d : Assigned) (line : List ℕ) (c : CLine) → IsGood p s d → IsTrue (is_due_at p s d c) → due_only p s d (read_part p s d line) ≡ None → line ≡ line_text c → ⊥
    never p s d line c fine due none same =
        let no : Some c ≡ None =
        sym (only_if_true (is_due_at p s d c) (Some c) due) ∙ sym (ap (λ o. bind o (λ c. only_if (is_due_at p s d c) (Some c))) (ap (read_part p s d) same ∙ read_part_reads p s d c fine due)) ∙ none in
        cc no

-- the end
pub is_text : (whole : List ℕ) (number : ℕ) (t : CStage) (rest : List ℕ) → StandsAt whole number t rest → is_finished t.due ≡ true → rest ≡ [] → IsCText whole t.step
is_text whole number t rest h end e = file_is_text whole t (at_the_end c_format whole number t rest h end e)

pub too_much : (whole : List ℕ) (number : ℕ) (t : CStage) (rest : List ℕ) → StandsAt whole number t rest → is_finished t.due ≡ true → (rest ≡ [] → ⊥) → CFault whole number
too_much whole number t rest h end some = behind_the_end c_format whole number t rest h end some

zero_if : (n : ℕ) → true ≡ nat_eq n 0 → n ≡ 0
zero_if n h = grind (arith, nat_tests)

pub empty_if : (l : List ℕ) → true ≡ nat_eq (length l) 0 → l ≡ []
empty_if [] h = refl
empty_if (x ∷ l) h = let e : length (x ∷ l) ≡ 0 = zero_if (length (x ∷ l)) h in absurd (omega arith)
