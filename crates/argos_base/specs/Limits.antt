-- The limits of texts, programs, equations and traces, each once. Source: this project.
use Rattle.std.specs.Prelude.{ℕ}

-- bytes of a file
abbrev pub text_limit : ℕ
text_limit = 1048576

-- bytes of a name
abbrev pub name_limit : ℕ
name_limit = 64

-- levels of nesting in a text
abbrev pub level_limit : ℕ
level_limit = 64

-- a number in a text
abbrev pub number_limit : ℕ
number_limit = 65535

-- signals of a module, and names of a table
abbrev pub signal_limit : ℕ
signal_limit = 16384

-- automata of a module
abbrev pub automaton_limit : ℕ
automaton_limit = 4096

-- codes of one automaton, without 0
abbrev pub code_limit : ℕ
code_limit = 65535

-- process nodes and uses by `run` on one path
abbrev pub depth_limit : ℕ
depth_limit = 64

-- the size of a module
abbrev pub size_limit : ℕ
size_limit = 262144

-- registers of a system of equations
abbrev pub register_limit : ℕ
register_limit = 100000

-- lines of a system of equations
abbrev pub line_limit : ℕ
line_limit = 100000000

-- lines of a system of equations that is put in order
abbrev pub plan_line_limit : ℕ
plan_line_limit = 30000000

-- lines of a woven system of equations
abbrev pub woven_line_limit : ℕ
woven_line_limit = 4000000

-- sets of the trace of an advice
abbrev pub advice_set_limit : ℕ
advice_set_limit = 256

-- bytes of a line of a trace
abbrev pub trace_line_limit : ℕ
trace_line_limit = 65535

-- variables of an arena of diagrams
abbrev pub variable_limit : ℕ
variable_limit = 1024

-- nodes of an arena of diagrams
abbrev pub node_limit : ℕ
node_limit = 16777216

-- nodes of an arena, where a command says nothing of them
abbrev pub usual_nodes : ℕ
usual_nodes = 1000000

-- aspects of a command
abbrev pub aspect_limit : ℕ
aspect_limit = 16

-- automata of a sample
abbrev pub sample_limit : ℕ
sample_limit = 60
