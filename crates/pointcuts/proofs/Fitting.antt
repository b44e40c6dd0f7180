-- Aspects of trees fit the base.
use Rattle.std.proofs.Common.{◌≡◌, ℕ, zero, suc, ◌+◌, ◌<◌, List, [], ◌∷◌, length, map, Some, slice_get, refl, sym, ap, subst, ◌∙◌, arith}
use Rattle.std.proofs.lemmas.List.{length-map}
use Rattle.std.proofs.lemmas.Option.{slice_get_within}
use Rattle.argos_aspects.specs.Aspects.{Aspect, Onset, to_initial, to_current, outputs_by, IsBelow, AreBelow, AreSized, Fits}
use Rattle.argos_aspects.specs.Aspects as aspects
use Rattle.argos_base.specs.Names.{Spelled}
use Rattle.argos_base.specs.SignalSets.{SignalSet}
use Rattle.argos_base.specs.Spelling.{is_one_of}
use Rattle.argos_core.specs.Overlaps.{IsGood}
use Rattle.argos_core.specs.Reactions.{output_count}
use Rattle.argos_grammar.specs.Forms.{Mark, AspectForm}
use Rattle.argos_names.specs.Scope.{names_in}
use Rattle.line_format.specs.FileNames.{FileNames}
use Rattle.pointcuts.specs.Pointcuts.{IsSeen, AreSeen, told, IsAspectOf}

seen_long : (n : FileNames) (names : List Spelled) (seen : List aspects.Seen) → AreSeen n names seen → length seen ≡ length names
seen_long n [] [] h = refl
seen_long n [] (s ∷ seen) h = absurd h
seen_long n (x ∷ names) [] h = absurd h
seen_long n (x ∷ names) (s ∷ seen) h = ap suc (seen_long n names seen h.1)

seen_below : (n : FileNames) (name : Spelled) (s : aspects.Seen) → IsSeen n name s → IsBelow (length n.inputs) (length n.outputs) s
seen_below n name (aspects.input k) h = slice_get_within n.inputs k name h
seen_below n name (aspects.output k) h = slice_get_within n.outputs k name h

all_below : (n : FileNames) (names : List Spelled) (seen : List aspects.Seen) → AreSeen n names seen → AreBelow (length n.inputs) (length n.outputs) seen
all_below n [] [] h = tt
all_below n [] (s ∷ seen) h = absurd h
all_below n (x ∷ names) [] h = absurd h
all_below n (x ∷ names) (s ∷ seen) h = (seen_below n x s h.0, all_below n names seen h.1)

all_sized : (names : List Spelled) (sets : List (List Mark)) → AreSized (length names) (map (told names) sets)
all_sized names [] = tt
all_sized names (ms ∷ sets) = (length-map names (is_one_of (names_in ms)), all_sized names sets)

one_by : (o : Onset) → outputs_by o ≡ 1
one_by to_initial = refl
one_by to_current = refl

pub fits : (t : AspectForm) (n : FileNames) (A : Aspect) → IsAspectOf t n A → IsGood A.observer → Fits A (length n.inputs) (length n.outputs)
fits t n A h good = record {
  observer = good;
  observer_outputs = h.join_point ∙ sym (one_by A.advice.onset);
  seen_sized = seen_long n A.observer.inputs A.seen h.seen;
  seen_exist = all_below n A.observer.inputs A.seen h.seen;
  outs_sized = ap length h.outs ∙ length-map n.outputs (is_one_of (names_in t.outs));
  trace_sized = subst (AreSized (length n.inputs)) (sym h.trace) (all_sized n.inputs t.trace);
}
