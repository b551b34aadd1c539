mod PlacedNames
