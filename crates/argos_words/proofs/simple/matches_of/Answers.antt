use Rattle.std.proofs.Common.{map, string_bytes}
use Rattle.argos_words.specs.Views.{texts_of}
use Rattle.argos_words.proofs.Matching.{found_matches, refused_words, all_utf8}
use Rattle.argos_words.proofs.simple.matches_of.Goals as goal

pub returns-in-Ok : goal.returns-in-Ok
returns-in-Ok c =
    found_matches c.args.name.now (texts_of c.args.options.now) (map string_bytes c.args.words.now) c.requires _ c.in-Ok.matches c.in_ok-command.ensures (all_utf8 c.args.words.now) c.in-Ok.ensures.kinds c.in-Ok.ensures.matches

pub returns-in-Err : goal.returns-in-Err
returns-in-Err c =
    refused_words c.args.name.now (texts_of c.args.options.now) (map string_bytes c.args.words.now) c.requires _ c.in-Err.error c.refusal.result c.in_ok-command.ensures c.in-Err.ensures.kinds c.refusal.ensures
