-- The calls: document 01's seven ("The record and its calls") and the page of document 02, order 1. Their arguments, and the lengths of their lent outputs.
use Rattle.std.specs.Prelude.{ℕ, List}

pub data Call : Type 0 where
  start : (list : List ℕ) (room : ℕ) → Call
  opening : (identifier : List ℕ) (endpoint : ℕ) → Call
  booth_packet : (endpoint : ℕ) (packet : List ℕ) (room : ℕ) → Call
  tunnel_octets : (octets : List ℕ) → Call
  close : (identifier : List ℕ) (room : ℕ) → Call
  end : Call
  look : (endpoint : ℕ) → Call
  write_page : (room : ℕ) → Call
