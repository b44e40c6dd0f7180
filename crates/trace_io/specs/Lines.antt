-- Trace lines: the sets of an input, and the line of an output. Source: this project.
use Rattle.std.specs.Prelude.{ℕ, ◌+◌, ◌*◌, ◌^◌, List, [], ◌∷◌, ◌++◌, length, take, map, Result, Ok, Err, Bool, true, false, ◌&&◌, not, ◌==◌, nat_lt, codes, filter, bytes_eq, if◌then◌else◌}
use Rattle.std.specs.List.{slice_split, list_all, join_with_byte}
use Rattle.std.specs.Str.Lines.{strip_carriage_return}
use Rattle.argos_base.specs.Limits.{text_limit, trace_line_limit}
use Rattle.argos_base.specs.Spelling.{is_name, is_one_of}
use Rattle.argos_base.specs.Names.{Spelled}
use Rattle.argos_base.specs.SignalSets.{SignalSet}

pub data LineKind : Type 0 where
  Unknown Spelling TooLong TooMany : LineKind

-- how pulling stopped: at the end, at a failure, or with as many bytes as are taken at most
pub data Stop : Type 0 where
  at_end failed full : Stop

-- the bytes that were taken, and how pulling stopped
pub record Taken : Type 0 where
  pub bytes : List ℕ
  pub stop : Stop

-- line by line, all of the input is taken
abbrev pub streamed : List ℕ → Taken
streamed bs = record { bytes = bs; stop = at_end }

-- where the trace is pulled whole, one byte more than the limit is taken at most
abbrev pub pulled_whole : List ℕ → Taken
pulled_whole bs = record { bytes = take (text_limit + 1) bs; stop = if nat_lt text_limit (length bs) then full else at_end }

-- how the lines end: all are good and pulling stopped so, or the line of this number is bad
pub data End : Type 0 where
  used_up : Stop → End
  bad_line : ℕ → LineKind → End

-- a line without its LF, and whether it had one
pub record Raw : Type 0 where
  pub bytes : List ℕ
  pub ended : Bool

-- what stands after the last LF is a line only where pulling stopped at the end, and where it isn't empty
abbrev pub last_raw : Stop → List ℕ → List Raw
last_raw at_end [] = []
last_raw at_end (b ∷ bs) = record { bytes = b ∷ bs; ended = false } ∷ []
last_raw failed bs = []
last_raw full bs = []

-- the lines of the parts between LFs
abbrev pub raws : Stop → List (List ℕ) → List Raw
raws stop [] = []
raws stop (p ∷ []) = last_raw stop p
raws stop (p ∷ q ∷ more) = record { bytes = p; ended = true } ∷ raws stop (q ∷ more)

abbrev pub raws_from : Stop → List ℕ → List Raw
raws_from stop bs = raws stop (slice_split (λ b. b == 10) bs)

abbrev pub raws_of : Taken → List Raw
raws_of t = raws_from t.stop t.bytes

-- without the one CR before the LF
abbrev pub content : Raw → List ℕ
content r = if r.ended then strip_carriage_return r.bytes else r.bytes

-- what stands between spaces
abbrev pub words_of : List ℕ → List (List ℕ)
words_of bs = filter (λ w. not (length w == 0)) (slice_split (λ b. b == 32) bs)

-- the set of the names that stand there
abbrev pub set_of : List Spelled → List (List ℕ) → SignalSet
set_of names words = map (is_one_of words) names

abbrev pub is_dash : List (List ℕ) → Bool
is_dash [] = false
is_dash (w ∷ []) = bytes_eq w (codes "-")
is_dash (w ∷ v ∷ ws) = false

abbrev pub of_words : List Spelled → List (List ℕ) → Result SignalSet LineKind
of_words names words = if is_dash words then Ok (set_of names [])
    else (if nat_lt 0 (length words) && list_all is_name words
    then (if list_all (is_one_of names) words then Ok (set_of names words) else Err Unknown)
    else Err Spelling)

-- the set of line n, or why it is bad
abbrev pub line_set : List Spelled → ℕ → Raw → Result SignalSet LineKind
line_set names n r = if not (nat_lt n (2 ^ 32)) then Err TooMany
    else (if nat_lt trace_line_limit (length r.bytes) then Err TooLong else of_words names (words_of (content r)))

-- the sets up to the end, or up to the first bad line
abbrev pub add_set : Result SignalSet LineKind → ℕ → List SignalSet × End → List SignalSet × End
add_set (Ok s) n more = (s ∷ more.0, more.1)
add_set (Err k) n more = ([], bad_line n k)

abbrev pub sets_from : List Spelled → Stop → ℕ → List Raw → List SignalSet × End
sets_from names stop n [] = ([], used_up stop)
sets_from names stop n (r ∷ rs) = add_set (line_set names n r) n (sets_from names stop (n + 1) rs)

-- the bytes that were taken give these sets, and end so
abbrev pub input_lines : Taken → List Spelled → List SignalSet × End
input_lines t names = sets_from names t.stop 1 (raws_of t)

-- the names that are present
abbrev pub present : SignalSet → List Spelled → List Spelled
present [] names = []
present (b ∷ bs) [] = []
present (b ∷ bs) (n ∷ ns) = if b then n ∷ present bs ns else present bs ns

abbrev pub or_dash : List Spelled → List Spelled
or_dash [] = codes "-" ∷ []
or_dash (n ∷ ns) = n ∷ ns

-- the names that are present with one space between two, or a dash
abbrev pub set_text : SignalSet → List Spelled → List ℕ
set_text s names = join_with_byte 32 (or_dash (present s names))

abbrev pub output_line : SignalSet → List Spelled → List ℕ
output_line s names = set_text s names ++ 10 ∷ []

-- no line of these names has more bytes
abbrev pub room_of : List Spelled → ℕ
room_of names = 65 * length names + 2
