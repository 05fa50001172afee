-- The order of each call's refusals, over its tests: document 01, "The record and its calls"; document 02, order 1. The earliest whose test holds is given. The 1 of End and of Tunnel octets and the 6 of types 4 and 5 stand in Table.
use Rattle.std.specs.Prelude.{Bool}
use Rattle.rules.specs.Verdict.{Verdict, allowed, refuse}

-- Start: 17, 16, 13
abbrev pub start_order : (up bad_list no_room : Bool) → Verdict
start_order up bad_list no_room = refuse up 17 (refuse bad_list 16 (refuse no_room 13 allowed))

-- Open: 1, 20, 11, 12, 10
abbrev pub open_order : (down wrong_width known served full : Bool) → Verdict
open_order down wrong_width known served full =
    refuse down 1 (refuse wrong_width 20 (refuse known 11 (refuse served 12 (refuse full 10 allowed))))

-- Booth packet: 1, 6, 14, 15, 13
abbrev pub packet_order : (down unserved not_dtls too_long no_room : Bool) → Verdict
packet_order down unserved not_dtls too_long no_room =
    refuse down 1 (refuse unserved 6 (refuse not_dtls 14 (refuse too_long 15 (refuse no_room 13 allowed))))

-- Tunnel octets, type 3: 6, 7, 8, 9
abbrev pub keys_order : (unknown not_in_list keys_unfit mki_or_salts_unfit : Bool) → Verdict
keys_order unknown not_in_list keys_unfit mki_or_salts_unfit =
    refuse unknown 6 (refuse not_in_list 7 (refuse keys_unfit 8 (refuse mki_or_salts_unfit 9 allowed)))

-- Close: 1, 20, 6, 13
abbrev pub close_order : (down wrong_width unknown no_room : Bool) → Verdict
close_order down wrong_width unknown no_room = refuse down 1 (refuse wrong_width 20 (refuse unknown 6 (refuse no_room 13 allowed)))

-- Write page: 13 (document 02, order 1)
abbrev pub page_order : (no_room : Bool) → Verdict
page_order no_room = refuse no_room 13 allowed

-- Look: 1, 6
abbrev pub look_order : (down unserved : Bool) → Verdict
look_order down unserved = refuse down 1 (refuse unserved 6 allowed)
