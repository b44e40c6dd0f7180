-- How a name lies in its 64 places: its bytes, and zeros after them. Source: this project.
use Rattle.std.specs.Prelude.{◌≡◌, ℕ, ◌-◌, ◌≤◌, List, ◌++◌, length, take, replicate}
use Rattle.std.proofs.Common.{ap, ◌∙◌, arith}
use Rattle.std.proofs.lemmas.List.{length-take-le}
use Rattle.argos_base.specs.Spelling.{IsName}
use Rattle.argos_base.specs.declared.name.Name.TheInside.{Inside}

pub record IsLaidOut (n : Inside) : Type 0 where
  pub within : n.len ≤ 64
  pub full : length n.buf ≡ 64
  pub padded : take n.len n.buf ++ replicate (64 - n.len) 0 ≡ n.buf
  pub spelled : IsName (take n.len n.buf)

abbrev pub laid_out : List ℕ → Inside
laid_out d = record { buf = d ++ replicate (64 - length d) 0; len = length d }

pub laid_out_back : (n : Inside) → IsLaidOut n → laid_out (take n.len n.buf) ≡ n
laid_out_back n h =
    let short : n.len ≤ length n.buf = omega arith in
    let e : length (take n.len n.buf) ≡ n.len = length-take-le n.len n.buf short in
    ap (λ (k : ℕ). let m : Inside = record { buf = take n.len n.buf ++ replicate (64 - k) 0; len = k } in m) e
    ∙ ap (λ (b : List ℕ). let m : Inside = record { buf = b; len = n.len } in m) h.padded
