-- What the definitions give of small interfaces: a and b, and o, in one order and in another.
use Rattle.std.specs.Prelude.{None}
use Rattle.std.proofs.Common.{◌≡◌, zero, suc, List, [], ◌∷◌, true, false, refl, sym, ap}
use Rattle.argos_base.specs.Names.{Spelled}
use Rattle.argos_core.specs.Process.{Process, no_states, state, no_body, present, automaton, at, no_inner, PlainModule}
use Rattle.argos_core.specs.Step.{transition, hold}
use Rattle.argos_aspects.specs.Aspects.{Aspect, input, output, to_initial}
use Rattle.argos_aspects.specs.Weaving.{WovenConfiguration, alone, IsWovenTrace}
use Rattle.argos_congruence.specs.Congruence.{is_shared, all_names, HaveSameNames, AreEqualUnderAspects}
use Rattle.argos_congruence.specs.Moved.{moved}
use Rattle.argos_congruence.specs.NamedSets.{has_name, AreSameByName, AllSameByName, moved_set, moved_number}

abbrev a_name : Spelled
a_name = 97 ∷ []

abbrev b_name : Spelled
b_name = 98 ∷ []

abbrev c_name : Spelled
c_name = 99 ∷ []

abbrev o_name : Spelled
o_name = 111 ∷ []

abbrev p_name : Spelled
p_name = 112 ∷ []

-- sets by name
abbrev three : List Spelled
three = a_name ∷ b_name ∷ c_name ∷ []

abbrev turned : List Spelled
turned = c_name ∷ a_name ∷ b_name ∷ []

pub b_is_there : has_name three (false ∷ true ∷ false ∷ []) b_name ≡ true
b_is_there = refl

-- what is none of the names is in no set
pub o_is_not_there : has_name three (true ∷ true ∷ true ∷ []) o_name ≡ false
o_is_not_there = refl

pub a_moves : moved_set three turned (true ∷ false ∷ false ∷ []) ≡ false ∷ true ∷ false ∷ []
a_moves = refl

pub c_is_first : moved_number three turned 2 ≡ 0
c_is_first = refl

-- sets with the same places aren't the same by name
pub places_count_nothing : AreSameByName three turned (true ∷ false ∷ false ∷ []) (true ∷ false ∷ false ∷ []) → ⊥
places_count_nothing h = let e : true ≡ false = h a_name in cc (e)

-- lists of sets that differ in length aren't the same
pub lengths_count : AllSameByName three turned [] ((true ∷ false ∷ false ∷ []) ∷ []) → ⊥
lengths_count h = h

-- programs: the interface alone counts here
abbrev quiet : Process
quiet = automaton (state (record { name = []; transitions = []; timeout = None }) no_body no_states) 0

abbrev with_interface : List Spelled → List Spelled → PlainModule
with_interface inputs outputs = record { process = quiet; inputs = inputs; outputs = outputs; locals = [] }

abbrev left : PlainModule
left = with_interface (a_name ∷ b_name ∷ []) (o_name ∷ p_name ∷ [])

abbrev right : PlainModule
right = with_interface (b_name ∷ a_name ∷ []) (p_name ∷ o_name ∷ [])

-- watches o and b, emits p at join points, and goes along a alone and b alone
abbrev aspect : Aspect
aspect = record {
  observer = left;
  seen = output 0 ∷ input 1 ∷ [];
  advice = record { outs = false ∷ true ∷ []; onset = to_initial; trace = (true ∷ false ∷ []) ∷ (false ∷ true ∷ []) ∷ [] };
}

-- it is watched by the same observer, from the same onset
pub aspect_moves : moved left right aspect ≡ record {
  observer = left;
  seen = output 1 ∷ input 0 ∷ [];
  advice = record { outs = true ∷ false ∷ []; onset = to_initial; trace = (false ∷ true ∷ []) ∷ (true ∷ false ∷ []) ∷ [] };
}
aspect_moves = refl

-- a name of both is shared, one of one alone isn't, and an input isn't shared with an output
pub a_is_shared : is_shared left right a_name ≡ true
a_is_shared = refl

pub c_is_foreign : is_shared left (with_interface (b_name ∷ a_name ∷ c_name ∷ []) (p_name ∷ o_name ∷ [])) c_name ≡ false
c_is_foreign = refl

pub kinds_count : is_shared (with_interface (a_name ∷ []) (o_name ∷ [])) (with_interface (o_name ∷ []) (a_name ∷ [])) a_name ≡ false
kinds_count = refl

-- the names of both sides are looked at, on each side the inputs first
pub names_in_order : all_names left right ≡ a_name ∷ b_name ∷ o_name ∷ p_name ∷ b_name ∷ a_name ∷ p_name ∷ o_name ∷ []
names_in_order = refl

-- the order of names makes no difference
pub same_names : HaveSameNames left right
same_names zero name h = let e : a_name ≡ name = cc in ap (is_shared left right) (sym e)
same_names (suc zero) name h = let e : b_name ≡ name = cc in ap (is_shared left right) (sym e)
same_names (suc (suc zero)) name h = let e : o_name ≡ name = cc in ap (is_shared left right) (sym e)
same_names (suc (suc (suc zero))) name h = let e : p_name ≡ name = cc in ap (is_shared left right) (sym e)
same_names (suc (suc (suc (suc zero)))) name h = let e : b_name ≡ name = cc in ap (is_shared left right) (sym e)
same_names (suc (suc (suc (suc (suc zero))))) name h = let e : a_name ≡ name = cc in ap (is_shared left right) (sym e)
same_names (suc (suc (suc (suc (suc (suc zero)))))) name h = let e : p_name ≡ name = cc in ap (is_shared left right) (sym e)
same_names (suc (suc (suc (suc (suc (suc (suc zero))))))) name h = let e : o_name ≡ name = cc in ap (is_shared left right) (sym e)
same_names (suc (suc (suc (suc (suc (suc (suc (suc k)))))))) name h = cc

-- a name of the right side alone makes interfaces differ
abbrev wider : PlainModule
wider = with_interface (b_name ∷ a_name ∷ []) (p_name ∷ o_name ∷ c_name ∷ [])

pub wider_differs : HaveSameNames left wider → ⊥
wider_differs h = let e : false ≡ true = h 8 c_name refl in cc (e)

-- programs of a and o that do nothing, and emit o with a
abbrev still : PlainModule
still = with_interface (a_name ∷ []) (o_name ∷ [])

abbrev echoing : Process
echoing = automaton (state (record { name = []; transitions = record { guard = present 0; outs = 1 ∷ []; target = 0 } ∷ []; timeout = None }) no_body no_states) 0

abbrev echo : PlainModule
echo = record { process = echoing; inputs = a_name ∷ []; outputs = o_name ∷ []; locals = [] }

abbrev at_start : WovenConfiguration
at_start = alone (at 0 0 no_inner)

still_trace : IsWovenTrace still [] ((true ∷ []) ∷ []) ((false ∷ []) ∷ [])
still_trace = (at_start ∷ [], (record { input = refl; emitted = false ∷ false ∷ []; step = hold _ tt tt (refl, refl) refl; outputs = refl }, tt))

echo_trace : IsWovenTrace echo [] ((true ∷ []) ∷ []) ((true ∷ []) ∷ [])
echo_trace =
    (at_start ∷ [], (record { input = refl; emitted = false ∷ true ∷ []; step = transition 0 _ _ _ refl refl (refl, refl) refl refl; outputs = refl }, tt))

-- they aren't equal under aspects, already under none
pub still_is_no_echo : AreEqualUnderAspects still echo → ⊥
still_is_no_echo h =
    let same = h [] ((true ∷ []) ∷ []) ((true ∷ []) ∷ []) ((false ∷ []) ∷ []) ((true ∷ []) ∷ []) tt ((λ name. refl), tt) still_trace echo_trace in
    let e : false ≡ true = same.0 o_name in
    cc (e)
