-- The S-box as a circuit of 115 gates (Boyar and Peralta), in layers, for the code: no part of FIPS 197. That it computes `sub_byte` is
-- `circuit_rule` (proofs/CircuitLaws.antt).
use Rattle.std.specs.Prelude.{ℕ, ◌+◌, ◌*◌, ◌/◌, ◌%◌}
use Rattle.std.specs.Int.Bits.{bit_xor, bit_and}
use Rattle.aes.specs.declared.circuit.Bits.{Bits}
use Rattle.aes.specs.declared.circuit.Top.{Top}
use Rattle.aes.specs.declared.circuit.Four.{Four}
use Rattle.aes.specs.declared.circuit.Nine.{Nine}

unfoldable pub split : ℕ → Bits
split b =
    record { x0 = b / 128; x1 = b / 64 % 2; x2 = b / 32 % 2; x3 = b / 16 % 2; x4 = b / 8 % 2; x5 = b / 4 % 2; x6 = b / 2 % 2; x7 = b % 2 }

-- The linear layer before the inversion.
unfoldable pub tops : Bits → Top
tops x =
    let y14 = bit_xor x.x3 x.x5 in
    let y13 = bit_xor x.x0 x.x6 in
    let y9 = bit_xor x.x0 x.x3 in
    let y8 = bit_xor x.x0 x.x5 in
    let t0 = bit_xor x.x1 x.x2 in
    let y1 = bit_xor t0 x.x7 in
    let y12 = bit_xor y13 y14 in
    let y5 = bit_xor y1 x.x6 in
    let t1 = bit_xor x.x4 y12 in
    let y15 = bit_xor t1 x.x5 in
    let y20 = bit_xor t1 x.x1 in
    let y10 = bit_xor y15 t0 in
    let y11 = bit_xor y20 y9 in
    let y16 = bit_xor t0 y11 in
    record { y1 = y1; y2 = bit_xor y1 x.x0; y3 = bit_xor y5 y8; y4 = bit_xor y1 x.x3; y5 = y5; y6 = bit_xor y15 x.x7; y7 = bit_xor x.x7 y11; y8 = y8; y9 = y9; y10 = y10; y11 = y11; y12 = y12; y13 = y13; y14 = y14; y15 = y15; y16 = y16; y17 = bit_xor y10 y11; y18 = bit_xor x.x0 y16; y19 = bit_xor y10 y8; y20 = y20; y21 = bit_xor y13 y16; x7 = x.x7 }

-- What is to be inverted, an element of the field of 16.
unfoldable pub middle : Top → Four
middle y =
    let t2 = bit_and y.y12 y.y15 in
    let t7 = bit_and y.y13 y.y16 in
    let t12 = bit_and y.y9 y.y11 in
    let t14 = bit_xor (bit_and y.y14 y.y17) t12 in
    let t16 = bit_xor (bit_and y.y8 y.y10) t12 in
    record { a = bit_xor (bit_xor (bit_xor (bit_and y.y3 y.y6) t2) t14) y.y20; b = bit_xor (bit_xor (bit_xor (bit_and y.y4 y.x7) t2) t16) y.y19; c = bit_xor (bit_xor (bit_xor (bit_and y.y5 y.y1) t7) t14) y.y21; d = bit_xor (bit_xor (bit_xor (bit_and y.y2 y.y7) t7) t16) y.y18 }

-- The inverse in the field of 16, and sums of its parts.
unfoldable pub inverted : Four → Nine
inverted f =
    let t25 = bit_xor f.a f.b in
    let t26 = bit_and f.a f.c in
    let t27 = bit_xor f.d t26 in
    let t28 = bit_and t25 t27 in
    let t29 = bit_xor t28 f.b in
    let t30 = bit_xor f.c f.d in
    let t31 = bit_xor f.b t26 in
    let t32 = bit_and t31 t30 in
    let t33 = bit_xor t32 f.d in
    let t34 = bit_xor f.c t33 in
    let t35 = bit_xor t27 t33 in
    let t36 = bit_and f.d t35 in
    let t37 = bit_xor t36 t34 in
    let t38 = bit_xor t27 t36 in
    let t39 = bit_and t29 t38 in
    let t40 = bit_xor t25 t39 in
    let t41 = bit_xor t40 t37 in
    let t42 = bit_xor t29 t33 in
    record { t29 = t29; t33 = t33; t37 = t37; t40 = t40; t41 = t41; t42 = t42; t43 = bit_xor t29 t40; t44 = bit_xor t33 t37; t45 = bit_xor t42 t41 }

-- The linear layer after the inversion.
unfoldable pub bottom : Top → Nine → Bits
bottom y n =
    let z0 = bit_and n.t44 y.y15 in
    let z1 = bit_and n.t37 y.y6 in
    let z2 = bit_and n.t33 y.x7 in
    let z3 = bit_and n.t43 y.y16 in
    let z4 = bit_and n.t40 y.y1 in
    let z5 = bit_and n.t29 y.y7 in
    let z6 = bit_and n.t42 y.y11 in
    let z7 = bit_and n.t45 y.y17 in
    let z8 = bit_and n.t41 y.y10 in
    let z9 = bit_and n.t44 y.y12 in
    let z10 = bit_and n.t37 y.y3 in
    let z11 = bit_and n.t33 y.y4 in
    let z12 = bit_and n.t43 y.y13 in
    let z13 = bit_and n.t40 y.y5 in
    let z14 = bit_and n.t29 y.y2 in
    let z15 = bit_and n.t42 y.y9 in
    let z16 = bit_and n.t45 y.y14 in
    let z17 = bit_and n.t41 y.y8 in
    let t46 = bit_xor z15 z16 in
    let t47 = bit_xor z10 z11 in
    let t48 = bit_xor z5 z13 in
    let t49 = bit_xor z9 z10 in
    let t50 = bit_xor z2 z12 in
    let t51 = bit_xor z2 z5 in
    let t52 = bit_xor z7 z8 in
    let t53 = bit_xor z0 z3 in
    let t54 = bit_xor z6 z7 in
    let t55 = bit_xor z16 z17 in
    let t56 = bit_xor z12 t48 in
    let t57 = bit_xor t50 t53 in
    let t58 = bit_xor z4 t46 in
    let t59 = bit_xor z3 t54 in
    let t60 = bit_xor t46 t57 in
    let t61 = bit_xor z14 t57 in
    let t62 = bit_xor t52 t58 in
    let t63 = bit_xor t49 t58 in
    let t64 = bit_xor z4 t59 in
    let t65 = bit_xor t61 t62 in
    let t66 = bit_xor z1 t63 in
    let s0 = bit_xor t59 t63 in
    let s6 = bit_xor (bit_xor t56 t62) 1 in
    let s7 = bit_xor (bit_xor t48 t60) 1 in
    let t67 = bit_xor t64 t65 in
    let s3 = bit_xor t53 t66 in
    let s4 = bit_xor t51 t66 in
    let s5 = bit_xor t47 t65 in
    let s1 = bit_xor (bit_xor t64 s3) 1 in
    let s2 = bit_xor (bit_xor t55 t67) 1 in
    record { x0 = s0; x1 = s1; x2 = s2; x3 = s3; x4 = s4; x5 = s5; x6 = s6; x7 = s7 }

unfoldable pub joined : Bits → ℕ
joined s =
    s.x0 % 2 * 128 + s.x1 % 2 * 64 + s.x2 % 2 * 32 + s.x3 % 2 * 16 + s.x4 % 2 * 8 + s.x5 % 2 * 4 + s.x6 % 2 * 2 + s.x7 % 2

-- the whole, from the first layer on
unfoldable pub finished : Top → ℕ
finished y = joined (bottom y (inverted (middle y)))

unfoldable pub circuit : ℕ → ℕ
circuit b = finished (tops (split b))
