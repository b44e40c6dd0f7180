-- How a reader goes on at a line of a part, and how it fails there.
use Rattle.std.proofs.Common.{◌≡◌, ℕ, suc, ◌+◌, ◌-◌, ◌<◌, ◌≤◌, List, [], ◌∷◌, ◌++◌, false, Option, Some, None, Result, Ok, Err, inl, inr, sym, ap, ◌∙◌, subst, arith, map}
use Rattle.std.specs.Prelude.{IfOk, IfErr}
use Rattle.std.proofs.lemmas.List.{map-append}
use Rattle.argos_base.specs.Names.{Spelled}
use Rattle.eqn_core.specs.Equations.{all, any, within, digit, choose, bits_of_line, words_of_line, bit_lines, word_lines}
use Rattle.eqn_core.specs.Equations as plain
use Rattle.eqn_core.specs.Ordered.{line_below}
use Rattle.eqn_core.specs.Views.{line_of}
use Rattle.eqn_core.specs.declared.system.Line.{Line}
use Rattle.line_format.specs.Lines.{IsLine, IsCut, IsAt}
use Rattle.line_format.specs.declared.reader.LineReader.{LineReader}
use Rattle.line_format.proofs.Options.{bind}
use Rattle.line_format.proofs.ReaderSteps.{line_right, line_wrong, line_misspelled, line_missing}
use Rattle.eqn_file.specs.EquationFile.{Stage, FileLine, EquationKind, spelling, after_line, equation_format, EquationFault, range, unless}
use Rattle.eqn_file.specs.Errors.{TellsFault, kind_of}
use Rattle.eqn_file.specs.inner.Words.{split}
use Rattle.eqn_file.specs.inner.WordReading.{read, one_name}
use Rattle.eqn_file.specs.inner.Taking.{IsBad, Gives}
use Rattle.eqn_file.specs.inner.Sections.{IsPart, StandsAt, GoesOn, FailsIn, stood_before, AddsName}
use Rattle.eqn_file.specs.declared.errors.EqError.{EqError}
use Rattle.eqn_file.specs.declared.errors.EqError.TheVariants as errors
use Rattle.eqn_file.specs.declared.errors.EqKind.TheVariants.{Spelling}
use Rattle.eqn_file.proofs.EquationTexts.{bit_lines-push, word_lines-push}
use Rattle.eqn_file.proofs.SpacedWords.{equation_clear, equation_read, equation_exact}

-- what a line that stands at this stage says
pub record IsLineAt {A : Type 0} (s : Stage) (say : A → FileLine) (said : List Spelled → Option A) (wrong : A → Option EquationKind) : Type 0 where
  pub reads : (ws : List Spelled) → read s.due ws ≡ bind (said ws) (λ a. Some (say a))
  pub wrongs : (a : A) → equation_format.wrong s (say a) ≡ wrong a
  pub ongoing : equation_format.is_end s ≡ false

-- the next line was taken
pub record IsNextLine (old new : LineReader) (at : ℕ) (bytes : List ℕ) : Type 0 where
  pub cut : IsCut 10 old.rest.now bytes new.rest.now
  pub line : at ≡ old.number
  pub number : new.number ≡ old.number + 1

pub line_goes : {A : Type 0} (s t : Stage) (say : A → FileLine) (said : List Spelled → Option A) (wrong : A → Option EquationKind) → IsLineAt s say said wrong → (whole : List ℕ) (old new : LineReader) (at : ℕ) (bytes : List ℕ) (a : A) → IsNextLine old new at bytes
    → said (split bytes) ≡ Some a → wrong a ≡ None → after_line s (say a) ≡ t → StandsAt whole old s → StandsAt whole new t
line_goes s t say said wrong is whole old new at bytes a next e r after h =
    let moved : IsAt equation_format whole (old.number + 1) (after_line s (say a)) new.rest.now =
    line_right equation_format equation_read equation_exact whole old.number s old.rest.now bytes new.rest.now (say a) h next.cut
    (is.reads (split bytes) ∙ ap (λ o. bind o (λ a. Some (say a))) e) (is.wrongs a ∙ r) in
    subst (λ n. IsAt equation_format whole n t new.rest.now) (sym next.number) (subst (λ z. IsAt equation_format whole (old.number + 1) z new.rest.now) after moved)

pub line_stops : {A : Type 0} (s : Stage) (say : A → FileLine) (said : List Spelled → Option A) (wrong : A → Option EquationKind) → IsLineAt s say said wrong → (whole : List ℕ) (old new : LineReader) (at : ℕ) (bytes : List ℕ) (n : ℕ) (k : EquationKind) → IsNextLine old new at bytes
    → n ≡ at → IsBad (said (split bytes)) wrong k → StandsAt whole old s → EquationFault whole n k
line_stops s say said wrong is whole old new at bytes n k next e (inl b) h =
    let none : read s.due (split bytes) ≡ None = is.reads (split bytes) ∙ ap (λ o. bind o (λ a. Some (say a))) b.0 in
    let fault : EquationFault whole old.number spelling = line_misspelled equation_format equation_read equation_clear equation_exact whole old.number s old.rest.now bytes new.rest.now h next.cut is.ongoing none in
    subst (λ m. EquationFault whole m k) (sym (e ∙ next.line)) (subst (λ z. EquationFault whole old.number z) (sym b.1) fault)
line_stops s say said wrong is whole old new at bytes n k next e (inr b) h =
    let some : read s.due (split bytes) ≡ Some (say b.0) = is.reads (split bytes) ∙ ap (λ o. bind o (λ a. Some (say a))) b.1 in
    let fault : EquationFault whole old.number k = line_wrong equation_format equation_read equation_exact whole old.number s old.rest.now bytes new.rest.now (say b.0) k h next.cut some (is.wrongs b.0 ∙ b.2) in
    subst (λ m. EquationFault whole m k) (sym (e ∙ next.line)) fault

-- whatever line gives at this stage, its error tells the fault
pub gives_fault : {X A : Type 0} (view : X → A) (s : Stage) (say : A → FileLine) (said : List Spelled → Option A) (wrong : A → Option EquationKind) → IsLineAt s say said wrong → (whole : List ℕ) (old new : LineReader) (at : ℕ) (bytes : List ℕ) (e : EqError) → IsNextLine old new at bytes
    → Gives view at (said (split bytes)) wrong (Err e) → StandsAt whole old s → TellsFault whole e
gives_fault view s say said wrong is whole old new at bytes (errors.Line n k) next g h = line_stops s say said wrong is whole old new at bytes n (kind_of k) next g.0 g.1 h
gives_fault view s say said wrong is whole old new at bytes errors.OutOfMemory next g h = tt

pub missing_fault : (s : Stage) (whole : List ℕ) (old : LineReader) (e : EqError) → IsLine old.rest.now → e ≡ errors.Line old.number Spelling → equation_format.is_end s ≡ false → StandsAt whole old s → TellsFault whole e
missing_fault s whole old e inner same ongoing h = subst (TellsFault whole) (sym same) (line_missing equation_format whole old.number s old.rest.now h inner ongoing)

-- a part's next line
part_line : {A : Type 0} (say : A → FileLine) (said : List Spelled → Option A) (wrong : List A → A → Option EquationKind) (st : ℕ → List A → Stage) → IsPart say said wrong st → (k : ℕ) (xs : List A) → IsLineAt (st (suc k) xs) say said (wrong xs)
part_line say said wrong st p k xs = record { reads = p.reads k xs; wrongs = p.wrongs k xs; ongoing = p.ongoing k xs }

at_left : {A : Type 0} (st : ℕ → List A → Stage) (whole : List ℕ) (r : LineReader) (xs : List A) (m n : ℕ) → m ≡ n → StandsAt whole r (st m xs) → StandsAt whole r (st n xs)
at_left st whole r xs m n e h = subst (λ k. StandsAt whole r (st k xs)) e h

pub part_goes : {A : Type 0} (say : A → FileLine) (said : List Spelled → Option A) (wrong : List A → A → Option EquationKind) (old now new : LineReader) (count i : ℕ) (xs ys : List A) (at : ℕ) (bytes : List ℕ) (a : A) → i < count → GoesOn say said wrong old count now (count - i) xs → IsNextLine now new at bytes
    → said (split bytes) ≡ Some a → wrong xs a ≡ None → ys ≡ xs ++ a ∷ [] → GoesOn say said wrong old count new (count - (i + 1)) ys
part_goes say said wrong old now new count i xs ys at bytes a l go next e r more = λ whole st p h.
    let k : ℕ = count - (i + 1) in
    let here = at_left st whole now xs (count - i) (suc k) (omega arith) (go whole st p h) in
    subst (λ z. StandsAt whole new (st k z)) (sym more) (line_goes (st (suc k) xs) (st k (xs ++ a ∷ [])) say said (wrong xs) (part_line say said wrong st p k xs) whole now new at bytes a next e r (p.next k xs a) here)

pub part_starts : {A : Type 0} (say : A → FileLine) (said : List Spelled → Option A) (wrong : List A → A → Option EquationKind) (old : LineReader) (count : ℕ) (xs : List A) → xs ≡ [] → GoesOn say said wrong old count old (count - 0) xs
part_starts say said wrong old count xs e = λ whole st p h. subst (λ z. StandsAt whole old (st (count - 0) z)) (sym e) (at_left st whole old [] count (count - 0) (omega arith) h)

pub part_ends : {A : Type 0} (say : A → FileLine) (said : List Spelled → Option A) (wrong : List A → A → Option EquationKind) (old now : LineReader) (count i : ℕ) (xs : List A) → count ≤ i → GoesOn say said wrong old count now (count - i) xs → GoesOn say said wrong old count now 0 xs
part_ends say said wrong old now count i xs l go = λ whole st p h. at_left st whole now xs (count - i) 0 (omega arith) (go whole st p h)

pub part_missing : {A : Type 0} (say : A → FileLine) (said : List Spelled → Option A) (wrong : List A → A → Option EquationKind) (old now : LineReader) (count i : ℕ) (xs : List A) (e : EqError) → i < count → GoesOn say said wrong old count now (count - i) xs
    → IsLine now.rest.now → e ≡ errors.Line now.number Spelling → FailsIn say said wrong old count e
part_missing say said wrong old now count i xs e l go inner same = λ whole st p h.
    let k : ℕ = count - (i + 1) in
    missing_fault (st (suc k) xs) whole now e inner same (p.ongoing k xs) (at_left st whole now xs (count - i) (suc k) (omega arith) (go whole st p h))

pub part_stops : {X A : Type 0} (view : X → A) (say : A → FileLine) (said : List Spelled → Option A) (wrong : List A → A → Option EquationKind) (old now new : LineReader) (count i : ℕ) (xs : List A) (at : ℕ) (bytes : List ℕ) (e : EqError) → i < count → GoesOn say said wrong old count now (count - i) xs → IsNextLine now new at bytes
    → Gives view at (said (split bytes)) (wrong xs) (Err e) → FailsIn say said wrong old count e
part_stops view say said wrong old now new count i xs at bytes e l go next g = λ whole st p h.
    let k : ℕ = count - (i + 1) in
    gives_fault view (st (suc k) xs) say said (wrong xs) (part_line say said wrong st p k xs) whole now new at bytes e next g (at_left st whole now xs (count - i) (suc k) (omega arith) (go whole st p h))

-- want of memory
pub part_memory : {A : Type 0} (say : A → FileLine) (said : List Spelled → Option A) (wrong : List A → A → Option EquationKind) (old : LineReader) (count : ℕ) (e : EqError) → e ≡ errors.OutOfMemory → FailsIn say said wrong old count e
part_memory say said wrong old count e same = λ whole st p h. subst (TellsFault whole) (sym same) tt

pub map-line_of : (items more : List Line) (x : Line) → more ≡ items ++ x ∷ [] → map line_of more ≡ map line_of items ++ line_of x ∷ []
map-line_of items more x e = ap (map line_of) e ∙ map-append line_of items (x ∷ [])

-- the error of a name's line
pub name_error : (at : ℕ) (bytes : List ℕ) (before old new : List Spelled) (e : EqError) → AddsName at (split bytes) before old new (Err e) → Gives (λ (n : Spelled). n) at (one_name (split bytes)) (stood_before before old) (Err e)
name_error at bytes before old new (errors.Line n k) h = h
name_error at bytes before old new errors.OutOfMemory h = h

-- what two facts say of a value
pub ok_then : {T E : Type 0} (r : Result T E) (P Q R : T → Type 0) → IfOk r P → IfOk r Q → ((x : T) → P x → Q x → R x) → IfOk r R
ok_then (Ok x) P Q R h k f = f x h k
ok_then (Err e) P Q R h k f = tt

pub err_then : {T E : Type 0} (r : Result T E) (P Q : E → Type 0) → IfErr r P → ((e : E) → P e → Q e) → IfErr r Q
err_then (Ok x) P Q h f = tt
err_then (Err e) P Q h f = f e h

one_or_none : (l : plain.Line) → (bits_of_line l ≤ 1) × (words_of_line l ≤ 1)
one_or_none (all ls) = (omega arith, omega arith)
one_or_none (any ls) = (omega arith, omega arith)
one_or_none (within w lo hi) = (omega arith, omega arith)
one_or_none (digit w place) = (omega arith, omega arith)
one_or_none (choose cases other) = (omega arith, omega arith)

pub one_bit : (l : plain.Line) → bits_of_line l ≤ 1
one_bit l = (one_or_none l).0

pub one_word : (l : plain.Line) → words_of_line l ≤ 1
one_word l = (one_or_none l).1

pub bits-push : (items more : List Line) (x : Line) → more ≡ items ++ x ∷ [] → bit_lines (map line_of more) ≡ bit_lines (map line_of items) + bits_of_line (line_of x)
bits-push items more x e = ap bit_lines (map-line_of items more x e) ∙ bit_lines-push (map line_of items) (line_of x)

pub words-push : (items more : List Line) (x : Line) → more ≡ items ++ x ∷ [] → word_lines (map line_of more) ≡ word_lines (map line_of items) + words_of_line (line_of x)
words-push items more x e = ap word_lines (map-line_of items more x e) ∙ word_lines-push (map line_of items) (line_of x)

-- the same bounds
pub gives_within : (b c w v at : ℕ) (said : Option plain.Line) (r : Result Line EqError) → b ≡ c → w ≡ v → Gives line_of at said (λ l. unless range (line_below b w l)) r → Gives line_of at said (λ l. unless range (line_below c v l)) r
gives_within b c w v at said r e f h = subst (λ k. Gives line_of at said (λ l. unless range (line_below c k l)) r) f (subst (λ k. Gives line_of at said (λ l. unless range (line_below k w l)) r) e h)
