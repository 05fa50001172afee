-- The key fields of a MediaKeys that was read.
use Rattle.rules.specs.Keys.{Keys, keys_in}
use Rattle.rows.specs.declared.writing.ReadKeys.{ReadKeys}

abbrev pub keys_read : ReadKeys → Keys
keys_read k = keys_in k.octets.now k.profile k.lengths
