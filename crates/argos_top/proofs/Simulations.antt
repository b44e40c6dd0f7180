-- A simulation of anything that reacts, line by line.
use Rattle.std.proofs.Common.{◌≡◌, ℕ, ◌+◌, ◌<◌, List, [], ◌∷◌, ◌++◌, Option, Some, None, true, length, Ok, Err, take, drop, refl, sym, ap, subst, ◌∙◌, append_assoc, length-append, arith}
use Rattle.std.proofs.lemmas.Grind.{common_steps}
use Rattle.std.proofs.lemmas.List.{take-append-drop}
use Rattle.argos_base.specs.Names.{Spelled}
use Rattle.argos_base.specs.Outside.{behind, Rose}
use Rattle.argos_base.specs.Runs.{Follows}
use Rattle.argos_base.specs.SignalSets.{SignalSet}
use Rattle.trace_io.specs.Lines.{End, at_end, used_up, output_line}
use Rattle.trace_io.specs.Whole.{Reading, lines_left, ReadsNext, end_of, IsNumbered}
use Rattle.trace_io.specs.declared.errors.TraceError.{TraceError}
use Rattle.trace_io.specs.declared.writer.WriteFault.{WriteFault}
use Rattle.trace_io.proofs.Devices.{behind-behind, behind-none}
use Rattle.argos_top.specs.Simulation.{output_lines}
use Rattle.argos_top.specs.inner.Lines.{GoesThrough}

append-none : {A : Type 0} (xs : List A) → xs ++ [] ≡ xs
append-none [] = refl
append-none (x ∷ xs) = ap (λ ys. x ∷ ys) (append-none xs)

-- where what reacts stands after these states
abbrev pub last_of : {S : Type 0} → S → List S → S
last_of x [] = x
last_of x (y ∷ ys) = last_of y ys

-- one reaction more
follows_more : {S : Type 0} (R : S → SignalSet → SignalSet → S → Type 0) (x : S) (is os : List SignalSet) (ys : List S) (i o : SignalSet) (y : S) → Follows R x is os ys → R (last_of x ys) i o y → Follows R x (is ++ i ∷ []) (os ++ o ∷ []) (ys ++ y ∷ [])
follows_more R x [] [] [] i o y h r = (r, tt)
follows_more R x (a ∷ is) (b ∷ os) (z ∷ ys) i o y h r = (h.0, follows_more R z is os ys i o y h.1 r)
follows_more R x [] [] (z ∷ ys) i o y h r = absurd h
follows_more R x [] (b ∷ os) ys i o y h r = absurd h
follows_more R x (a ∷ is) [] ys i o y h r = absurd h
follows_more R x (a ∷ is) (b ∷ os) [] i o y h r = absurd h

last_more : {S : Type 0} (x : S) (ys : List S) (y : S) → last_of x (ys ++ y ∷ []) ≡ y
last_more x [] y = refl
last_more x (z ∷ ys) y = last_more z ys y

lines_more : (names : List Spelled) (os : List SignalSet) (o : SignalSet) → output_lines names (os ++ o ∷ []) ≡ output_lines names os ++ output_line o names
lines_more names [] o = append-none (output_line o names)
lines_more names (b ∷ os) o = ap (λ z. output_line b names ++ z) (lines_more names os o) ∙ sym (append_assoc (output_line b names) (output_lines names os) (output_line o names))

-- how far a simulation has come: so many lines were gone through, their outputs were appended, and the others are left
pub record SoFar {S : Type 0} (R : S → SignalSet → SignalSet → S → Type 0) (start now : S) (inputs outputs : List Spelled) (all : List SignalSet × End) (held held' : Option (List ℕ)) (trace : Reading) : Type 0 where
  pub done : List SignalSet
  pub written : List SignalSet
  pub states : List S
  pub follows : Follows R start done written states
  pub stands : now ≡ last_of start states
  pub appended : held' ≡ behind held (output_lines outputs written)
  pub split : all.0 ≡ done ++ (lines_left inputs trace).0
  pub ended : all.1 ≡ (lines_left inputs trace).1
  pub counted : trace.number ≡ length done + 1

pub SoFar-start : {S : Type 0} (R : S → SignalSet → SignalSet → S → Type 0) (start : S) (inputs outputs : List Spelled) (trace : Reading) (held : Option (List ℕ)) → trace.number ≡ 1 → SoFar R start start inputs outputs (lines_left inputs trace) held held trace
SoFar-start R start inputs outputs trace held first = record { done = []; written = []; states = []; follows = tt; stands = refl; appended = behind-none held; split = refl; ended = refl; counted = omega arith }

module _ {S : Type 0} (R : S → SignalSet → SignalSet → S → Type 0) (start now : S) (inputs outputs : List Spelled) (all : List SignalSet × End) (held held' : Option (List ℕ)) (trace : Reading) where
  -- the next line is good
  pub SoFar-more : (rest : Reading) (i o : SignalSet) (next : S) (held2 : Option (List ℕ)) → SoFar R start now inputs outputs all held held' trace → ReadsNext inputs trace rest i (Ok true)
      → R now i o next → held2 ≡ behind held' (output_line o outputs) → SoFar R start next inputs outputs all held held2 rest
  SoFar-more rest i o next held2 s read reacts put =
      let more = (lines_left inputs rest).0 in
      record {
        done = s.done ++ i ∷ [];
        written = s.written ++ o ∷ [];
        states = s.states ++ next ∷ [];
        follows = follows_more R start s.done s.written s.states i o next s.follows (subst (λ x. R x i o next) s.stands reacts);
        stands = sym (last_more start s.states next);
        appended = put ∙ ap (λ h. behind h (output_line o outputs)) s.appended ∙ behind-behind held (output_lines outputs s.written) (output_line o outputs) ∙ ap (behind held) (sym (lines_more outputs s.written o));
        split = s.split ∙ ap (λ z. s.done ++ z.0) read.0 ∙ sym (append_assoc s.done (i ∷ []) more);
        ended = s.ended ∙ ap (λ z. z.1) read.0;
        counted = let c = s.counted in let e = length-append s.done (i ∷ []) in let n = read.1 in omega arith;
      }

  -- no line is left
  pub goes-end : (before after : ℕ) → after ≡ before → SoFar R start now inputs outputs all held held' trace → lines_left inputs trace ≡ ([], used_up at_end)
      → GoesThrough R start outputs all (record { told = held; told' = held'; faults = before; faults' = after }) (Ok None)
  goes-end before after still s g =
      record {
        outputs = s.written;
        passes = (s.states, subst (λ is. Follows R start is s.written s.states) (sym (s.split ∙ ap (λ z. s.done ++ z.0) g ∙ append-none s.done)) s.follows);
        appended = s.appended;
        still = still;
        ends = s.ended ∙ ap (λ z. z.1) g;
      }

  -- an error is answered
  pub goes-error : (error : TraceError) (before after : ℕ) → after ≡ before → SoFar R start now inputs outputs all held held' trace → (lines_left inputs trace ≡ ([], end_of error)) × IsNumbered error trace.number
      → GoesThrough R start outputs all (record { told = held; told' = held'; faults = before; faults' = after }) (Ok (Some error))
  goes-error error before after still s g =
      let same : all.0 ≡ s.done = s.split ∙ ap (λ z. s.done ++ z.0) g.0 ∙ append-none s.done in
      record {
        outputs = s.written;
        passes = (s.states, subst (λ is. Follows R start is s.written s.states) (sym same) s.follows);
        appended = s.appended;
        still = still;
        ends = (s.ended ∙ ap (λ z. z.1) g.0, subst (IsNumbered error) (s.counted ∙ ap (λ is. length is + 1) (sym same)) g.1);
      }

  -- the sink failed behind a part of the line
  pub goes-halt : (rest : Reading) (i o : SignalSet) (next : S) (held2 : Option (List ℕ)) (n before now_before after : ℕ) (fault : WriteFault) → SoFar R start now inputs outputs all held held' trace → ReadsNext inputs trace rest i (Ok true)
      → R now i o next → held2 ≡ behind held' (take n (output_line o outputs)) → now_before ≡ before → Rose now_before after
      → GoesThrough R start outputs all (record { told = held; told' = held2; faults = before; faults' = after }) (Err fault)
  goes-halt rest i o next held2 n before now_before after fault s read reacts put still rose =
      let more = (lines_left inputs rest).0 in
      let line = output_line o outputs in
      let lines = output_lines outputs s.written in
      record {
        done = s.done ++ i ∷ [];
        rest = more;
        split = s.split ∙ ap (λ z. s.done ++ z.0) read.0 ∙ sym (append_assoc s.done (i ∷ []) more);
        outputs = s.written ++ o ∷ [];
        passes = (s.states ++ next ∷ [], follows_more R start s.done s.written s.states i o next s.follows (subst (λ x. R x i o next) s.stands reacts));
        part = lines ++ take n line;
        is_part = record { rest = drop n line; joined = lines_more outputs s.written o ∙ ap (λ z. lines ++ z) (sym (take-append-drop n line)) ∙ sym (append_assoc lines (take n line) (drop n line)) };
        appended = put ∙ ap (λ h. behind h (take n line)) s.appended ∙ behind-behind held lines (take n line);
        rose = omega arith;
      }

-- with each line that was read fewer are left
pub fewer : (inputs : List Spelled) (trace rest : Reading) (i : SignalSet) → ReadsNext inputs trace rest i (Ok true) → length (lines_left inputs rest).0 < length (lines_left inputs trace).0
fewer inputs trace rest i read = let e = ap (λ z. length z.0) read.0 in omega (arith, e)

pub ruleset simulations = (common_steps, SoFar-start)
