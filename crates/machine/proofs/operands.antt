mod SlebLaws
