mod Period
