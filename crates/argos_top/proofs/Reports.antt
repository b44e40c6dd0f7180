-- What is written after a part, and what one text leaves.
use Rattle.std.proofs.Common.{◌≡◌, ℕ, List, [], ◌∷◌, ◌++◌, codes, Option, take, drop, refl, sym, ap, subst, ◌∙◌, append_assoc, arith}
use Rattle.std.specs.Prelude.{decimal}
use Rattle.std.proofs.lemmas.List.{take-append-drop}
use Rattle.std.proofs.lemmas.Grind.{common_steps}
use Rattle.argos_base.specs.Outside.{behind, Rose}
use Rattle.trace_io.proofs.Devices.{behind-behind, behind-none}
use Rattle.trace_io.specs.Lines.{LineKind, End, at_end, used_up}
use Rattle.trace_io.specs.Whole.{end_of}
use Rattle.trace_io.specs.declared.errors.TraceError.{TraceError}
use Rattle.argos_load.specs.Calls.{Call}
use Rattle.argos_top.specs.Clauses.{IsPart}
use Rattle.argos_report.specs.Texts.{line}
use Rattle.argos_load.specs.Said.{line_cause, bad_line_text}
use Rattle.argos_top.specs.inner.Endings.{Pushes, whole, sink_failed, tail_of, status_after}
use Rattle.argos_top.specs.declared.status.Status.{Status}
use Rattle.argos_top.specs.declared.status.Status.TheVariants.{Yes, WriteFault}

-- a sink that held and counts so, before and after
abbrev pub sink_call : Option (List ℕ) → Option (List ℕ) → ℕ → ℕ → Call (Option (List ℕ))
sink_call held held' before now = record { told = held; told' = held'; faults = before; faults' = now }

pub IsPart-front : (n : ℕ) (bytes : List ℕ) → IsPart (take n bytes) bytes
IsPart-front n bytes = record { rest = drop n bytes; joined = sym (take-append-drop n bytes) }

-- all of the text was pushed
pub Pushes-whole : (bytes : List ℕ) (status : Status) (held held' : Option (List ℕ)) (before now : ℕ) → held' ≡ behind held bytes → now ≡ before → Pushes bytes status (sink_call held held' before now) status
Pushes-whole bytes status held held' before now h e = whole refl h e

-- a push failed
pub Pushes-failed : (bytes : List ℕ) (status : Status) (held held' : Option (List ℕ)) (before now n : ℕ) → held' ≡ behind held (take n bytes) → Rose before now → Pushes bytes status (sink_call held held' before now) WriteFault
Pushes-failed bytes status held held' before now n h rose = sink_failed (take n bytes) refl (IsPart-front n bytes) h rose

-- nothing is written
pub Pushes-none : (status : Status) (held : Option (List ℕ)) (before : ℕ) → Pushes [] status (sink_call held held before before) status
Pushes-none status held before = whole refl (behind-none held) refl

after : (lines part bytes : List ℕ) → IsPart part bytes → IsPart (lines ++ part) (lines ++ bytes)
after lines part bytes p = record { rest = p.rest; joined = ap (λ z. lines ++ z) p.joined ∙ sym (append_assoc lines part p.rest) }

behind_after : (lines bytes : List ℕ) (held held1 held2 : Option (List ℕ)) → held1 ≡ behind held lines → held2 ≡ behind held1 bytes → held2 ≡ behind held (lines ++ bytes)
behind_after lines bytes held held1 held2 put all = all ∙ ap (λ h. behind h bytes) put ∙ behind-behind held lines bytes

-- first some bytes, and then what follows them
pub Pushes-after : (lines bytes : List ℕ) (status : Status) (held held1 held2 : Option (List ℕ)) (start before now : ℕ) (r : Status) → before ≡ start → held1 ≡ behind held lines → Pushes bytes status (sink_call held1 held2 before now) r
    → Pushes (lines ++ bytes) status (sink_call held held2 start now) r
Pushes-after lines bytes status held held1 held2 start before now r still put (whole is all kept) = whole is (behind_after lines bytes held held1 held2 put all) (kept ∙ still)
Pushes-after lines bytes status held held1 held2 start before now r still put (sink_failed part is p some rose) = sink_failed (lines ++ part) is (after lines part bytes p) (behind_after lines part held held1 held2 put some) (omega arith)

pub longer : (part bytes more : List ℕ) → IsPart part bytes → IsPart part (bytes ++ more)
longer part bytes more p = record { rest = p.rest ++ more; joined = ap (λ z. z ++ more) p.joined ∙ append_assoc part p.rest more }

-- the first of the bytes were pushed in part
pub Pushes-front : (lines bytes : List ℕ) (status : Status) (held held' : Option (List ℕ)) (before now n : ℕ) → held' ≡ behind held (take n lines) → Rose before now → Pushes (lines ++ bytes) status (sink_call held held' before now) WriteFault
Pushes-front lines bytes status held held' before now n h rose = sink_failed (take n lines) refl (longer (take n lines) lines bytes (IsPart-front n lines)) h rose

-- what follows where the lines end so
pub ends-here : (lines : End) (count : ℕ) (s : Call (Option (List ℕ))) (r : Status) → lines ≡ used_up at_end → Pushes [] Yes s r → Pushes (tail_of lines count) (status_after lines) s r
ends-here lines count s r e h = subst (λ l. Pushes (tail_of l count) (status_after l) s r) (sym e) h

pub ends-error : (error : TraceError) (lines : End) (count : ℕ) (s : Call (Option (List ℕ))) (r : Status) → lines ≡ end_of error → Pushes (tail_of (end_of error) count) (status_after (end_of error)) s r → Pushes (tail_of lines count) (status_after lines) s r
ends-error error lines count s r e h = subst (λ l. Pushes (tail_of l count) (status_after l) s r) (sym e) h

-- the report of a bad line, joined in another order
pub line_joined : (n : ℕ) (kind : LineKind) → codes "refused: line " ++ (decimal n ++ (codes ": " ++ line (line_cause kind))) ≡ bad_line_text n kind
line_joined n kind =
    sym (append_assoc (codes "refused: line ") (decimal n) (codes ": " ++ (line_cause kind ++ 10 ∷ [])))
    ∙ sym (append_assoc (codes "refused: line " ++ decimal n) (codes ": ") (line_cause kind ++ 10 ∷ []))
    ∙ sym (append_assoc (codes "refused: line " ++ decimal n ++ codes ": ") (line_cause kind) (10 ∷ []))

pub ruleset reports = (common_steps, Pushes-whole, Pushes-failed, Pushes-none, ends-here)
