use Prim.Native.Nat.{ℕ, ◌+◌, ◌/◌, ◌%◌, ◌≤◌}
use mathlib.Core.Path.{◌≡◌, refl, sym, ap, ap₂, subst, ◌∙◌}
use mathlib.Core.List.{List}
use lib.ListN.{length, get_or, replicate, length-replicate}
use Rattle.octets.proofs.OctetLaws.{zeros_octets}
use Rattle.aes.specs.KeyExpansion.{key_expansion}
use Rattle.aes.proofs.ScheduleLaws.{expansion_octets}
use Rattle.keywrap.specs.KeyWrap.{wrap_steps, unwrap_steps}
use Rattle.keywrap.proofs.CodeLaws.{zero_at}
use Rattle.keywrap.proofs.StepLaws.{steps_back}
use Rattle.keywrap.proofs.clearing.forget.Goals as goal

pub returns : goal.returns
returns c =
    let a = c.args in
    let steps = 1 + a.at % 256 / 128 in
    let k : List ℕ = replicate 16 0 in
    let n = length a.x.now in
    let z : List ℕ = replicate n 0 in
    let w = key_expansion k in
    let s = c.load_schedule.ensures in
    let least : 16 ≤ n = c.requires.0 in
    let back : unwrap_steps w steps (wrap_steps w steps z) ≡ z =
    steps_back w (expansion_octets k (zeros_octets 16)) steps z
    (record { least = subst (λ (m : ℕ). 16 ≤ m) (sym (length-replicate n 0)) least; octets = zeros_octets n }) in
    let x =
    c.unwrap_steps.ensures
    ∙ ap₂ (λ (v y : List ℕ). unwrap_steps v steps y) s (c.wrap_steps.ensures ∙ ap₂ (λ (v y : List ℕ). wrap_steps v steps y) s c.clear-2.ensures.1)
    ∙ back in
    let o = c.octet.ensures ∙ ap (λ (l : List ℕ). get_or l (a.at % 16) 0) x ∙ zero_at n (a.at % 16) in
    (rw (c.clear.ensures.0, c.clear-2.ensures.0, o) refl, c.clear.ensures.1, x)
