use Rattle.text_hex.proofs.+put_hex_number.Given as goal

abbrev pub decreases-put_hex_number : goal.decreases-put_hex_number
decreases-put_hex_number l = l.count
